use Rattle.uv_machine.proofs.RuleLaws.{enter_has}
use Rattle.uv_machine.proofs.laws.rules.enter_has_rule.Goals as goal

pub returns : goal.returns
returns c = enter_has
