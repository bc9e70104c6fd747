-- Laws of the packets of a work, and of turns and ticks.
use Rattle.std.specs.Prelude.{ℕ, ◌≡◌, ◌≤◌, ◌<◌, false, Some, IfSome, List, length, slice_get}
use Rattle.std.specs.List.{range_with_len, flat_map}
use Rattle.uv_num.specs.Each.{Each}
use Rattle.uv_packet.specs.Packets.{IsPacketValue}
use Rattle.uv_qp.specs.Pairs.{IsPaired, Paired}
use Rattle.uv_region.specs.GoingOn.{LentGoesOn}
use Rattle.uv_region.specs.Lent.{Lent}
use Rattle.uv_wr.specs.Works.{Sending, whole_length}
use Rattle.uv_requester.specs.declared.segment.Course.{Course}
use Rattle.uv_requester.specs.Ends.{GoesOnByMade}
use Rattle.uv_requester.specs.Segments.{segment, segments, share_of, work_requests}
use Rattle.uv_requester.specs.SendPlaces.{is_read_op}
use Rattle.uv_requester.specs.Ticks.{tick_made}
use Rattle.uv_requester.specs.Turns.{lent_by_turn, send_turn_made}

-- The packet that is made at a place is the one of the whole list.

abbrev pub SegmentStands : Type 0
SegmentStands =
    (w : Sending) (c : Course) (bytes : List ℕ) (at : ℕ) → at < work_requests c.mtu w
    → slice_get (segments w c bytes) at ≡ Some (segment w c at (share_of c.mtu w bytes at))

-- The bytes of the packets, one after another, are the bytes of the work. A read sends none.

abbrev pub NothingIsLost : Type 0
NothingIsLost =
    (w : Sending) (mtu : ℕ) (bytes : List ℕ) → 256 ≤ mtu → is_read_op w.op ≡ false → length bytes ≡ whole_length w.parts
    → flat_map (share_of mtu w bytes) (range_with_len 0 (work_requests mtu w)) ≡ bytes

-- By turns and ticks the queue pair goes on, and its lists gain the completions that are told; the regions that are lent to
-- a turn go on, and the queue pair acts on them for its own domain.

abbrev pub TicksGoOn : Type 0
TicksGoOn = (p : Paired) → IfSome (tick_made p) (GoesOnByMade p)

pub record SendTurnGoesOn (p : Paired) (lent : Lent) : Type 0 where
  pub pair : IfSome (send_turn_made p lent) (GoesOnByMade p)
  pub regions : LentGoesOn p.names.object p.names.domain lent (lent_by_turn p lent)

abbrev pub SendTurnsGoOn : Type 0
SendTurnsGoOn = (p : Paired) (lent : Lent) → SendTurnGoesOn p lent

-- The packets that a send turn makes can be written as bytes.

abbrev pub TurnsMakePackets : Type 0
TurnsMakePackets = (p : Paired) (lent : Lent) → IsPaired p → IfSome (send_turn_made p lent) (λ m. Each IsPacketValue m.packets)
