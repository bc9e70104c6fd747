use Rattle.uv_responder.proofs.Ruling.{packet_has}
use Rattle.uv_responder.proofs.laws.packet_has_rule.Goals as goal

pub returns : goal.returns
returns c = packet_has
