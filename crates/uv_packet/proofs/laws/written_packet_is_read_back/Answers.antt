use Rattle.uv_packet.proofs.Again.{written_again}
use Rattle.uv_packet.proofs.laws.written_packet_is_read_back.Goals as goal

pub returns : goal.returns
returns c = written_again
