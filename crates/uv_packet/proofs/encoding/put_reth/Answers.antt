use Rattle.std.proofs.Common.{append_assoc}
use Rattle.uv_packet.proofs.encoding.put_reth.Goals as goal

pub returns-in-Some-clause-bytes : goal.returns-in-Some-clause-bytes
returns-in-Some-clause-bytes c = rw (c.put_u32-in-Some.ensures.bytes, c.put_u32.ensures.bytes, c.put_u64.ensures.bytes, c.in-Some.is) (simp append_assoc)
