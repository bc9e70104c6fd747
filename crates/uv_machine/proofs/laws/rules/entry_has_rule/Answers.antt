use Rattle.uv_machine.proofs.RuleLaws.{entry_has}
use Rattle.uv_machine.proofs.laws.rules.entry_has_rule.Goals as goal

pub returns : goal.returns
returns c = entry_has
