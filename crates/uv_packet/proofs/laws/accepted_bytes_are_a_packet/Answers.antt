use Rattle.uv_packet.proofs.Cutting.{accepted_is_packet}
use Rattle.uv_packet.proofs.laws.accepted_bytes_are_a_packet.Goals as goal

pub returns : goal.returns
returns c = accepted_is_packet
