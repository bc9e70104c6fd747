use Rattle.uv_packet.proofs.Again.{one_reading}
use Rattle.uv_packet.proofs.laws.packet_has_one_reading.Goals as goal

pub returns : goal.returns
returns c = one_reading
