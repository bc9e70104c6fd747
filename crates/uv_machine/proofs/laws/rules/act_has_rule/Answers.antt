use Rattle.uv_machine.proofs.RuleLaws.{act_has}
use Rattle.uv_machine.proofs.laws.rules.act_has_rule.Goals as goal

pub returns : goal.returns
returns c = act_has
