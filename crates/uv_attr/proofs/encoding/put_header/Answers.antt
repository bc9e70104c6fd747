use Rattle.std.proofs.Common.{append_assoc}
use Rattle.uv_attr.proofs.encoding.put_header.Goals as goal

pub returns : goal.returns
returns c = rw (c.in_ok-put_u32-2.ensures, c.in_ok-put_u32.ensures, c.in_ok-put_u64.ensures, c.in_ok-put_u16-4.ensures, c.in_ok-put_u16-3.ensures, c.in_ok-put_u16-2.ensures, c.in_ok-put_u16.ensures, c.len-count.ensures) (simp append_assoc)
