use Rattle.uv_schema.proofs.RuleLaws.{call_has}
use Rattle.uv_schema.proofs.rule_laws.call_has_rule.Goals as goal

pub returns : goal.returns
returns c = call_has
