use Rattle.uv_schema.proofs.RuleLaws.{request_has}
use Rattle.uv_schema.proofs.rule_laws.request_has_rule.Goals as goal

pub returns : goal.returns
returns c = request_has
