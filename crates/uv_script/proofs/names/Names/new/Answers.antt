use Rattle.std.proofs.Common.{ap}
use Rattle.std.proofs.Math.Path.{fun_ext}
use Rattle.std.specs.Cmp.Lexicographic.{slice_cmp}
use Rattle.std.specs.Map.{lookup}
use Rattle.std.specs.BTreeMap.{is_at}
use Rattle.std.specs.Ordering.{nat_cmp}
use Rattle.uv_script.proofs.names.Names.new.Goals as goal

pub returns : goal.returns
returns c = fun_ext (λ name. ap (lookup (is_at (λ k. slice_cmp nat_cmp name k.now))) c.new.ensures.empty)
