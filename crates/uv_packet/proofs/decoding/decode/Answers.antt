use Rattle.std.proofs.Common.{arith}
use Rattle.uv_packet.proofs.Again.{answer_is_read}
use Rattle.uv_packet.proofs.Cutting.{answer_is_packet}
use Rattle.uv_packet.proofs.decoding.decode.Goals as goal

pub returns-clause-packet : goal.returns-clause-packet
returns-clause-packet c = answer_is_packet c.args.bytes.now c.read_packet.result (λ i. omega (arith, c.type_inv.bytes i)) c.read_packet.ensures.read

pub returns-clause-again : goal.returns-clause-again
returns-clause-again c = answer_is_read c.args.bytes.now c.read_packet.result c.read_packet.ensures.memory c.read_packet.ensures.read
