use Rattle.uv_machine.proofs.RuleLaws.{step_has}
use Rattle.uv_machine.proofs.laws.rules.step_has_rule.Goals as goal

pub returns : goal.returns
returns c = step_has
