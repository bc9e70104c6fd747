use Rattle.std.proofs.Math.Path.{fun_ext}
use Rattle.std.proofs.lemmas.Map.Text.{btree_map_updates_str}
use Rattle.uv_script.proofs.names.Names.put.Goals as goal

pub returns : goal.returns
returns c = fun_ext (λ name. btree_map_updates_str c.args.name.now c.args.self.now.known c.insert.new.self _ c.in_ok-insert.ensures.updates name)
