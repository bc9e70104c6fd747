use Rattle.std.proofs.Common.{rules}
use Rattle.std.proofs.lemmas.Fn.{filter_same}
use Rattle.uv_machine.specs.Effects.{not_in_file}
use Rattle.uv_machine.proofs.effects.remove_file.Goals as goal

pub returns : goal.returns
returns c = filter_same _ (not_in_file c.args.file) _ (λ x b f h. (search rules, search rules)) _ _ c.retain.ensures
