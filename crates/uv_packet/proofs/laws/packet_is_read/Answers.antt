use Rattle.uv_packet.proofs.Again.{packet_again}
use Rattle.uv_packet.proofs.laws.packet_is_read.Goals as goal

pub returns : goal.returns
returns c = packet_again
