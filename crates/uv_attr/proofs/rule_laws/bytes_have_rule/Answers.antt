use Rattle.uv_attr.proofs.RuleLaws.{bytes_have}
use Rattle.uv_attr.proofs.rule_laws.bytes_have_rule.Goals as goal

pub returns : goal.returns
returns c = bytes_have
