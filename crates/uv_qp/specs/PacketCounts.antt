-- How many packets works have. A packet has a PSN of its own; a read has one request packet, and as many PSNs as its response
-- has packets, which count here.
use Rattle.std.specs.Prelude.{ℕ, ◌+◌, ◌-◌, ◌/◌, ◌==◌, if◌then◌else◌, List, [], ◌∷◌}
use Rattle.uv_wr.specs.declared.work.Op.{Op}
use Rattle.uv_wr.specs.declared.work.Op.TheVariants.{Send, SendImm, Write, WriteImm, Read, Ud, UdImm}
use Rattle.uv_wr.specs.Works.{Sending, whole_length}

-- the packets of so many bytes: each but the last has as many as the path MTU, and no bytes have one packet
abbrev pub packets_in : ℕ → ℕ → ℕ
packets_in mtu size = if size == 0 then 1 else (size + (mtu - 1)) / mtu

-- the packets of an operation on so many bytes: a datagram is one, whatever its length
abbrev pub op_packets : ℕ → Op → ℕ → ℕ
op_packets mtu Send size = packets_in mtu size
op_packets mtu (SendImm imm) size = packets_in mtu size
op_packets mtu (Write at key) size = packets_in mtu size
op_packets mtu (WriteImm at key imm) size = packets_in mtu size
op_packets mtu (Read at key) size = packets_in mtu size
op_packets mtu (Ud device qp qkey) size = 1
op_packets mtu (UdImm device qp qkey imm) size = 1

-- the packets of a work
abbrev pub work_packets : ℕ → Sending → ℕ
work_packets mtu w = op_packets mtu w.op (whole_length w.parts)

-- the packets of all works of a queue
abbrev pub queue_packets : ℕ → List Sending → ℕ
queue_packets mtu [] = 0
queue_packets mtu (w ∷ ws) = work_packets mtu w + queue_packets mtu ws
