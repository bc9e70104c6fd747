use Rattle.uv_packet.proofs.Again.{dest_read}
use Rattle.uv_packet.proofs.laws.dest_is_the_packets.Goals as goal

pub returns : goal.returns
returns c = dest_read
