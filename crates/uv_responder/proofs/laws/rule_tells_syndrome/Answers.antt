use Rattle.uv_responder.proofs.Ruling.{rule_tells}
use Rattle.uv_responder.proofs.laws.rule_tells_syndrome.Goals as goal

pub returns : goal.returns
returns c = rule_tells
