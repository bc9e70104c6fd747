use Rattle.std.proofs.Common.{append_assoc}
use Rattle.uv_packet.proofs.encoding.put_bth.Goals as goal

pub returns-clause-bytes : goal.returns-clause-bytes
returns-clause-bytes c = rw (c.put_u24-2.ensures.bytes, c.put_u8-4.ensures.bytes, c.ack_byte.ensures, c.put_u24.ensures.bytes, c.put_u8-3.ensures.bytes, c.put_u16.ensures.bytes, c.put_u8-2.ensures.bytes, c.flags_of.ensures, c.put_u8.ensures.bytes) (simp append_assoc)
