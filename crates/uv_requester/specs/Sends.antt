-- What a turn sends of the works that wait (`rxe_requester`, `rxe_req.c`).
use Rattle.std.specs.Prelude.{◌≡◌, ℕ, ◌+◌, ◌-◌, ◌%◌, ◌||◌, nat_lt, max, Bool, true, false, if◌then◌else◌, Option, None, Some, List, [], ◌∷◌, map, slice_get}
use Rattle.uv_num.specs.declared.limits.TheConstants.{PSNS}
use Rattle.uv_num.specs.declared.qp.Service.{Service}
use Rattle.uv_num.specs.declared.qp.Service.TheVariants as service
use Rattle.uv_packet.specs.Packets.{Content, content_of}
use Rattle.uv_qp.specs.declared.state.Names.{Names}
use Rattle.uv_qp.specs.declared.state.Requester.{Requester}
use Rattle.uv_qp.specs.declared.turns.TurnWord.TheVariants as word
use Rattle.uv_qp.specs.Pairs.{Paired, mtu_of, next_send, peer_device_of, peer_of, qpn_of}
use Rattle.uv_qp.specs.Writers.{send_completed, with_requester}
use Rattle.uv_region.specs.declared.action.Access.TheVariants.{LocalRead}
use Rattle.uv_region.specs.declared.piece.Piece.{Piece}
use Rattle.uv_region.specs.Lent.{Lent, StaysKnown}
use Rattle.uv_region.specs.Several.{gathered, lent_allows_all, lent_read, with_rooms_for}
use Rattle.uv_wr.specs.declared.completion.Status.TheVariants as status
use Rattle.uv_wr.specs.declared.work.Op.{Op}
use Rattle.uv_wr.specs.declared.work.Op.TheVariants as op
use Rattle.uv_wr.specs.Works.{Sending, whole_length}
use Rattle.uv_requester.specs.declared.segment.Course.{Course}
use Rattle.uv_requester.specs.declared.packing.Packed.{Packed}
use Rattle.uv_requester.specs.declared.packing.Packed.TheVariants.{One, Denied, Nothing}
use Rattle.uv_requester.specs.declared.sending.TheConstants.{DATAGRAM_BYTES}
use Rattle.uv_requester.specs.Ends.{Made, ends_next, failed_at}
use Rattle.uv_requester.specs.Segments.{pieces_at, segment}
use Rattle.uv_requester.specs.SendPlaces.{has_read_before, is_read_op, located, work_places}

-- the packet of a work

-- the packets of a work are numbered from so many later than the oldest work is
abbrev pub course_of : Paired → ℕ → Course
course_of p ahead = record {
  mtu = mtu_of p;
  psn = (p.requester.base + ahead) % PSNS;
  dest = peer_of p;
  source = qpn_of p.names;
}

-- the bytes that a queue pair reads of its own regions, and these regions then
abbrev pub bytes_packed : Lent → Names → List Piece → List ℕ
bytes_packed lent names found = gathered (with_rooms_for lent found) LocalRead names.object names.domain found

abbrev pub lent_packed : Lent → Names → List Piece → Lent
lent_packed lent names found = lent_read (with_rooms_for lent found) LocalRead names.object names.domain found

-- whether its regions let it
abbrev pub may_pack : Lent → Names → ℕ → Sending → ℕ → Bool
may_pack lent names mtu w at = lent_allows_all lent LocalRead names.domain (pieces_at mtu w at)

-- the packet of a work at a place, with the bytes that its parts hold
abbrev pub packed_content : Lent → Names → Course → Sending → ℕ → Content
packed_content lent names course w at = segment w course at (bytes_packed lent names (pieces_at course.mtu w at))

-- what comes of the packing of a work
abbrev pub PackGives : Lent → Names → Course → Sending → ℕ → Packed → Lent → Type 0
PackGives lent names course w at (One packets) after =
    (may_pack lent names course.mtu w at ≡ true)
    × (map content_of packets ≡ packed_content lent names course w at ∷ [])
    × (after ≡ lent_packed lent names (pieces_at course.mtu w at))
PackGives lent names course w at Denied after = (may_pack lent names course.mtu w at ≡ false) × (after ≡ lent)
PackGives lent names course w at Nothing after = StaysKnown lent after

-- a connection sends the next request

-- the requester after a request packet that takes so many places
abbrev pub sent_on : Requester → ℕ → Bool → Requester
sent_on r places reads = record r {
  next = r.next + places;
  high = max r.high (r.next + places);
  asked = if reads then r.next else r.asked;
}

abbrev pub request_sent : Paired → Lent → ℕ → Sending → Made
request_sent p lent at w = record {
  word = word.Sent;
  to = peer_device_of p;
  packets = packed_content lent p.names (course_of p (p.requester.next - at)) w at ∷ [];
  completions = [];
  pair = with_requester p (sent_on p.requester (work_places (mtu_of p) w at) (is_read_op w.op));
}

-- the packet of a work at a place, or the end of that work, where a region isn't there or refuses it
abbrev pub request_made : Paired → Lent → ℕ → ℕ → Option Sending → Option Made
request_made p lent place at None = None
request_made p lent place at (Some w) =
    Some (if may_pack lent p.names (mtu_of p) w at then request_sent p lent at w else failed_at p place status.LocProtErr)

abbrev pub lent_by_request : Paired → Lent → ℕ → Option Sending → Lent
lent_by_request p lent at None = lent
lent_by_request p lent at (Some w) =
    if may_pack lent p.names (mtu_of p) w at then lent_packed lent p.names (pieces_at (mtu_of p) w at) else lent

abbrev pub request_at : Paired → Lent → Option (ℕ × ℕ) → Option Made
request_at p lent None = None
request_at p lent (Some l) = request_made p lent l.0 l.1 (slice_get p.sends.works l.0)

abbrev pub lent_request_at : Paired → Lent → Option (ℕ × ℕ) → Lent
lent_request_at p lent None = lent
lent_request_at p lent (Some l) = lent_by_request p lent l.1 (slice_get p.sends.works l.0)

-- it waits for a tick, or for the responses of a read
abbrev pub is_waiting : Paired → Bool
is_waiting p = p.requester.paused || has_read_before (mtu_of p) p.sends.works p.requester.next

abbrev pub next_request : Paired → Option (ℕ × ℕ)
next_request p = if is_waiting p then None else located 0 (mtu_of p) p.sends.works p.requester.next

-- a datagram is one packet, and ends as it is sent

-- the device that it goes to
abbrev pub device_at : Op → ℕ → ℕ
device_at op.Send peer = peer
device_at (op.SendImm imm) peer = peer
device_at (op.Write at key) peer = peer
device_at (op.WriteImm at key imm) peer = peer
device_at (op.Read at key) peer = peer
device_at (op.Ud device qp qkey) peer = device
device_at (op.UdImm device qp qkey imm) peer = device

abbrev pub datagram_sent : Paired → Lent → Sending → Made
datagram_sent p lent w = record {
  word = word.Sent;
  to = device_at w.op (peer_device_of p);
  packets = packed_content lent p.names (course_of p 0) w 0 ∷ [];
  completions = ends_next p status.Success;
  pair = send_completed p status.Success;
}

abbrev pub is_too_long : Sending → Bool
is_too_long w = nat_lt DATAGRAM_BYTES (whole_length w.parts)

abbrev pub datagram_packed : Paired → Lent → Option Sending → Option Made
datagram_packed p lent None = None
datagram_packed p lent (Some w) =
    Some (if may_pack lent p.names (mtu_of p) w 0 then datagram_sent p lent w else failed_at p 0 status.LocProtErr)

-- its length is looked at before its parts
abbrev pub datagram_made : Paired → Lent → Option Sending → Option Made
datagram_made p lent None = None
datagram_made p lent (Some w) =
    if is_too_long w then Some (failed_at p 0 status.LocLenErr) else datagram_packed p lent (Some w)

abbrev pub lent_by_packing : Paired → Lent → Option Sending → Lent
lent_by_packing p lent None = lent
lent_by_packing p lent (Some w) =
    if may_pack lent p.names (mtu_of p) w 0 then lent_packed lent p.names (pieces_at (mtu_of p) w 0) else lent

abbrev pub lent_by_datagram : Paired → Lent → Option Sending → Lent
lent_by_datagram p lent None = lent
lent_by_datagram p lent (Some w) = if is_too_long w then lent else lent_by_packing p lent (Some w)

-- by the service

abbrev pub send_made : Paired → Lent → Service → Option Made
send_made p lent service.Rc = request_at p lent (next_request p)
send_made p lent service.Ud = datagram_made p lent (next_send p)

abbrev pub lent_by_send : Paired → Lent → Service → Lent
lent_by_send p lent service.Rc = lent_request_at p lent (next_request p)
lent_by_send p lent service.Ud = lent_by_datagram p lent (next_send p)
