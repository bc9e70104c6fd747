use Rattle.uv_machine.proofs.RuleLaws.{open_has}
use Rattle.uv_machine.proofs.laws.rules.open_has_rule.Goals as goal

pub returns : goal.returns
returns c = open_has
