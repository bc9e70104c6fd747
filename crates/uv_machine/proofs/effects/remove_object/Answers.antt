use Rattle.std.proofs.Common.{rules}
use Rattle.std.proofs.lemmas.Fn.{filter_same}
use Rattle.uv_machine.specs.Effects.{not_with_id}
use Rattle.uv_machine.proofs.effects.remove_object.Goals as goal

pub returns : goal.returns
returns c = filter_same _ (not_with_id c.args.id) _ (λ x b f h. (search rules, search rules)) _ _ c.retain.ensures
