-- Which packet of which work stands at a place of the send queue, and which reads were asked for.
use Rattle.std.specs.Prelude.{ℕ, ◌+◌, ◌-◌, nat_lt, Bool, true, false, if◌then◌else◌, Option, None, Some, List, [], ◌∷◌}
use Rattle.uv_qp.specs.PacketCounts.{packets_in, work_packets}
use Rattle.uv_wr.specs.declared.work.Op.{Op}
use Rattle.uv_wr.specs.declared.work.Op.TheVariants.{Send, SendImm, Write, WriteImm, Read, Ud, UdImm}
use Rattle.uv_wr.specs.Works.{Sending, whole_length}

-- the work at a place, the first of these being the k-th of its queue, and which of its packets stands there
abbrev pub located : ℕ → ℕ → List Sending → ℕ → Option (ℕ × ℕ)
located k mtu [] at = None
located k mtu (w ∷ ws) at =
    if nat_lt at (work_packets mtu w) then Some (k, at) else located (k + 1) mtu ws (at - work_packets mtu w)

abbrev pub is_read_op : Op → Bool
is_read_op Send = false
is_read_op (SendImm imm) = false
is_read_op (Write at key) = false
is_read_op (WriteImm at key imm) = false
is_read_op (Read at key) = true
is_read_op (Ud device qp qkey) = false
is_read_op (UdImm device qp qkey imm) = false

-- whether a read ends before a place: it was asked for, and waits for its responses, since it is still in the queue
abbrev pub has_read_before : ℕ → List Sending → ℕ → Bool
has_read_before mtu [] at = false
has_read_before mtu (w ∷ ws) at =
    if nat_lt at (work_packets mtu w) then false
    else (if is_read_op w.op then true else has_read_before mtu ws (at - work_packets mtu w))

-- how many places a request packet takes: that of a read takes those of all responses that it asks for
abbrev pub op_places : ℕ → Op → ℕ → ℕ → ℕ
op_places mtu Send size at = 1
op_places mtu (SendImm imm) size at = 1
op_places mtu (Write place key) size at = 1
op_places mtu (WriteImm place key imm) size at = 1
op_places mtu (Read place key) size at = packets_in mtu size - at
op_places mtu (Ud device qp qkey) size at = 1
op_places mtu (UdImm device qp qkey imm) size at = 1

abbrev pub work_places : ℕ → Sending → ℕ → ℕ
work_places mtu w at = op_places mtu w.op (whole_length w.parts) at
