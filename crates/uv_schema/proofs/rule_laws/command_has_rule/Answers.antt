use Rattle.uv_schema.proofs.RuleLaws.{command_has}
use Rattle.uv_schema.proofs.rule_laws.command_has_rule.Goals as goal

pub returns : goal.returns
returns c = command_has c.bytes_have_rule.ensures
