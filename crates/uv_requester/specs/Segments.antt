-- The request packets of a work.
use Rattle.std.specs.Prelude.{ℕ, ◌+◌, ◌-◌, ◌*◌, ◌%◌, ◌^◌, ◌==◌, ◌&&◌, min, Bool, true, false, if◌then◌else◌, Option, None, Some, List, map, take, drop}
use Rattle.std.specs.List.{range_with_len}
use Rattle.uv_num.specs.declared.limits.TheConstants.{PSNS}
use Rattle.uv_packet.specs.declared.opcode.Opcode.{Opcode}
use Rattle.uv_packet.specs.declared.opcode.Opcode.TheVariants.{SendFirst, SendMiddle, SendLast, SendLastWithImmediate, SendOnly, SendOnlyWithImmediate, WriteFirst, WriteMiddle, WriteLast, WriteLastWithImmediate, WriteOnly, WriteOnlyWithImmediate, ReadRequest, UdSendOnly, UdSendOnlyWithImmediate}
use Rattle.uv_packet.specs.declared.packet.Reth.{Reth}
use Rattle.uv_packet.specs.declared.packet.Deth.{Deth}
use Rattle.uv_packet.specs.Opcodes.{opcode_number}
use Rattle.uv_packet.specs.Packets.{Content}
use Rattle.uv_qp.specs.declared.gate.TheConstants.{DEFAULT_PKEY}
use Rattle.uv_qp.specs.PacketCounts.{packets_in}
use Rattle.uv_qp.specs.Pieces.{pieces}
use Rattle.uv_region.specs.declared.piece.Piece.{Piece}
use Rattle.uv_wr.specs.declared.work.Op.{Op}
use Rattle.uv_wr.specs.declared.work.Op.TheVariants as op
use Rattle.uv_wr.specs.Works.{Sending, whole_length}
use Rattle.uv_requester.specs.declared.segment.Course.{Course}
use Rattle.uv_requester.specs.declared.segment.Spot.{Spot}
use Rattle.uv_requester.specs.declared.segment.Spot.TheVariants.{Only, First, Middle, Last}

-- where a packet stands among so many
abbrev pub spot_of : ℕ → ℕ → Spot
spot_of count at =
    if count == 1 then Only else (if at == 0 then First else (if at + 1 == count then Last else Middle))

abbrev pub is_last_spot : Spot → Bool
is_last_spot Only = true
is_last_spot First = false
is_last_spot Middle = false
is_last_spot Last = true

abbrev pub is_first_spot : Spot → Bool
is_first_spot Only = true
is_first_spot First = true
is_first_spot Middle = false
is_first_spot Last = false

-- where the packet at a place stands in its message: a read and a datagram have one request packet
abbrev pub op_spot : ℕ → Op → ℕ → ℕ → Spot
op_spot mtu op.Send size at = spot_of (packets_in mtu size) at
op_spot mtu (op.SendImm imm) size at = spot_of (packets_in mtu size) at
op_spot mtu (op.Write place key) size at = spot_of (packets_in mtu size) at
op_spot mtu (op.WriteImm place key imm) size at = spot_of (packets_in mtu size) at
op_spot mtu (op.Read place key) size at = Only
op_spot mtu (op.Ud device qp qkey) size at = Only
op_spot mtu (op.UdImm device qp qkey imm) size at = Only

-- the opcode of each packet of an operation
abbrev pub op_opcode : Op → Spot → Opcode
op_opcode op.Send Only = SendOnly
op_opcode op.Send First = SendFirst
op_opcode op.Send Middle = SendMiddle
op_opcode op.Send Last = SendLast
op_opcode (op.SendImm imm) Only = SendOnlyWithImmediate
op_opcode (op.SendImm imm) First = SendFirst
op_opcode (op.SendImm imm) Middle = SendMiddle
op_opcode (op.SendImm imm) Last = SendLastWithImmediate
op_opcode (op.Write at key) Only = WriteOnly
op_opcode (op.Write at key) First = WriteFirst
op_opcode (op.Write at key) Middle = WriteMiddle
op_opcode (op.Write at key) Last = WriteLast
op_opcode (op.WriteImm at key imm) Only = WriteOnlyWithImmediate
op_opcode (op.WriteImm at key imm) First = WriteFirst
op_opcode (op.WriteImm at key imm) Middle = WriteMiddle
op_opcode (op.WriteImm at key imm) Last = WriteLastWithImmediate
op_opcode (op.Read at key) spot = ReadRequest
op_opcode (op.Ud device qp qkey) spot = UdSendOnly
op_opcode (op.UdImm device qp qkey imm) spot = UdSendOnlyWithImmediate

-- what a write tells with its first packet, and a read with each request: a read that goes on from a later place asks for the
-- rest, from an address that wraps as the peer's addresses do
abbrev pub op_reth : Op → Bool → ℕ → ℕ → Option Reth
op_reth op.Send first size from = None
op_reth (op.SendImm imm) first size from = None
op_reth (op.Write at key) first size from = if first then Some (record { at = at; key = key; length = size }) else None
op_reth (op.WriteImm at key imm) first size from = if first then Some (record { at = at; key = key; length = size }) else None
op_reth (op.Read at key) first size from = Some (record { at = (at + from) % 2 ^ 64; key = key; length = size - from })
op_reth (op.Ud device qp qkey) first size from = None
op_reth (op.UdImm device qp qkey imm) first size from = None

-- the immediate of the last packet
abbrev pub op_imm : Op → Bool → Option ℕ
op_imm op.Send last = None
op_imm (op.SendImm imm) last = if last then Some imm else None
op_imm (op.Write at key) last = None
op_imm (op.WriteImm at key imm) last = if last then Some imm else None
op_imm (op.Read at key) last = None
op_imm (op.Ud device qp qkey) last = None
op_imm (op.UdImm device qp qkey imm) last = Some imm

-- who sends a datagram, and by which right
abbrev pub op_deth : Op → ℕ → Option Deth
op_deth op.Send source = None
op_deth (op.SendImm imm) source = None
op_deth (op.Write at key) source = None
op_deth (op.WriteImm at key imm) source = None
op_deth (op.Read at key) source = None
op_deth (op.Ud device qp qkey) source = Some (record { qkey = qkey; source = source })
op_deth (op.UdImm device qp qkey imm) source = Some (record { qkey = qkey; source = source })

-- the queue pair that it goes to: a datagram names its own, and all others go to the one that this one is connected to
abbrev pub op_dest : Op → ℕ → ℕ
op_dest op.Send peer = peer
op_dest (op.SendImm imm) peer = peer
op_dest (op.Write at key) peer = peer
op_dest (op.WriteImm at key imm) peer = peer
op_dest (op.Read at key) peer = peer
op_dest (op.Ud device qp qkey) peer = qp
op_dest (op.UdImm device qp qkey imm) peer = qp

-- whether a solicited work asks for an event with its last packet: what takes no receive can't
abbrev pub can_solicit : Op → Bool
can_solicit op.Send = true
can_solicit (op.SendImm imm) = true
can_solicit (op.Write at key) = false
can_solicit (op.WriteImm at key imm) = true
can_solicit (op.Read at key) = false
can_solicit (op.Ud device qp qkey) = true
can_solicit (op.UdImm device qp qkey imm) = true

-- the packet of a work at a place, with these bytes
abbrev pub segment : Sending → Course → ℕ → List ℕ → Content
segment work course at payload =
    let size = whole_length work.parts in
    let spot = op_spot course.mtu work.op size at in
    record {
      opcode = opcode_number (op_opcode work.op spot);
      solicited = is_last_spot spot && work.solicited && can_solicit work.op;
      migrated = false;
      pkey = DEFAULT_PKEY;
      dest = op_dest work.op course.dest;
      ack = is_last_spot spot;
      psn = (course.psn + at) % PSNS;
      reth = op_reth work.op (is_first_spot spot) size (at * course.mtu);
      aeth = None;
      imm = op_imm work.op (is_last_spot spot);
      ieth = None;
      deth = op_deth work.op course.source;
      payload = payload;
    }

-- its bytes: all packets but the last have as many as the path MTU, a read request has none, and a datagram has all

-- how many bytes the packet at a place has
abbrev pub op_share : ℕ → Op → ℕ → ℕ → ℕ
op_share mtu op.Send size at = min mtu (size - at * mtu)
op_share mtu (op.SendImm imm) size at = min mtu (size - at * mtu)
op_share mtu (op.Write place key) size at = min mtu (size - at * mtu)
op_share mtu (op.WriteImm place key imm) size at = min mtu (size - at * mtu)
op_share mtu (op.Read place key) size at = 0
op_share mtu (op.Ud device qp qkey) size at = size
op_share mtu (op.UdImm device qp qkey imm) size at = size

abbrev pub work_share : ℕ → Sending → ℕ → ℕ
work_share mtu w at = op_share mtu w.op (whole_length w.parts) at

-- the bytes of a work that the packet at a place has
abbrev pub share_of : ℕ → Sending → List ℕ → ℕ → List ℕ
share_of mtu w bytes at = take (work_share mtu w at) (drop (at * mtu) bytes)

-- where they lie
abbrev pub pieces_at : ℕ → Sending → ℕ → List Piece
pieces_at mtu w at = pieces w.parts (at * mtu) (work_share mtu w at)

-- how many request packets an operation has
abbrev pub op_requests : ℕ → Op → ℕ → ℕ
op_requests mtu op.Send size = packets_in mtu size
op_requests mtu (op.SendImm imm) size = packets_in mtu size
op_requests mtu (op.Write place key) size = packets_in mtu size
op_requests mtu (op.WriteImm place key imm) size = packets_in mtu size
op_requests mtu (op.Read place key) size = 1
op_requests mtu (op.Ud device qp qkey) size = 1
op_requests mtu (op.UdImm device qp qkey imm) size = 1

abbrev pub work_requests : ℕ → Sending → ℕ
work_requests mtu w = op_requests mtu w.op (whole_length w.parts)

abbrev pub segment_of : Sending → Course → List ℕ → ℕ → Content
segment_of work course bytes at = segment work course at (share_of course.mtu work bytes at)

-- the request packets of a work whose bytes are these, in order
abbrev pub segments : Sending → Course → List ℕ → List Content
segments work course bytes =
    map (segment_of work course bytes) (range_with_len 0 (work_requests course.mtu work))
