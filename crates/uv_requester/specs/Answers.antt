-- How a read is answered: a response packet at each turn, by one remote read each (`read_reply`, `rxe_resp.c`).
use Rattle.std.specs.Prelude.{ℕ, ◌+◌, ◌-◌, ◌*◌, ◌%◌, min, nat_le, Bool, true, false, if◌then◌else◌, Option, None, Some, List, [], ◌∷◌}
use Rattle.uv_num.specs.declared.limits.TheConstants.{PSNS}
use Rattle.uv_num.specs.declared.qp.QpState.{QpState}
use Rattle.uv_num.specs.declared.qp.QpState.TheVariants.{Reset, Init, Rtr, Rts, Err}
use Rattle.uv_packet.specs.declared.opcode.Opcode.{Opcode}
use Rattle.uv_packet.specs.declared.opcode.Opcode.TheVariants.{ReadResponseFirst, ReadResponseMiddle, ReadResponseLast, ReadResponseOnly, Acknowledge}
use Rattle.uv_packet.specs.declared.packet.Aeth.{Aeth}
use Rattle.uv_packet.specs.declared.syndrome.TheConstants.{ACK, NAK_ACCESS}
use Rattle.uv_packet.specs.Opcodes.{opcode_number}
use Rattle.uv_packet.specs.Packets.{Content}
use Rattle.uv_qp.specs.declared.gate.TheConstants.{DEFAULT_PKEY}
use Rattle.uv_qp.specs.declared.state.Reading.{Reading}
use Rattle.uv_qp.specs.declared.turns.TurnWord.TheVariants as word
use Rattle.uv_qp.specs.PacketCounts.{packets_in}
use Rattle.uv_qp.specs.Pieces.{pieces}
use Rattle.uv_qp.specs.Pairs.{Paired, mtu_of, peer_device_of, peer_of}
use Rattle.uv_qp.specs.Writers.{broken, with_responder}
use Rattle.uv_region.specs.declared.action.Access.TheVariants.{RemoteRead}
use Rattle.uv_region.specs.declared.piece.Piece.{Piece}
use Rattle.uv_region.specs.Lent.{Lent}
use Rattle.uv_region.specs.Several.{gathered, lent_allows_all, lent_read, with_rooms_for}
use Rattle.uv_requester.specs.declared.segment.Spot.{Spot}
use Rattle.uv_requester.specs.declared.segment.Spot.TheVariants.{Only, First, Middle, Last}
use Rattle.uv_requester.specs.Ends.{Made}
use Rattle.uv_requester.specs.Segments.{spot_of}

abbrev pub is_answering_state : QpState → Bool
is_answering_state Reset = false
is_answering_state Init = false
is_answering_state Rtr = true
is_answering_state Rts = true
is_answering_state Err = false

-- the read that is answered, if one is
abbrev pub answered_read : Paired → Option Reading
answered_read p = if is_answering_state p.state then p.responder.reading else None

-- the opcode of each response
abbrev pub response_opcode : Spot → Opcode
response_opcode Only = ReadResponseOnly
response_opcode First = ReadResponseFirst
response_opcode Middle = ReadResponseMiddle
response_opcode Last = ReadResponseLast

-- all responses but those in the middle acknowledge
abbrev pub response_aeth : Spot → ℕ → Option Aeth
response_aeth Only msn = Some (record { syndrome = ACK; msn = msn })
response_aeth First msn = Some (record { syndrome = ACK; msn = msn })
response_aeth Middle msn = None
response_aeth Last msn = Some (record { syndrome = ACK; msn = msn })

-- where the bytes of the next response lie: a read of no bytes has one response, and looks at no region
abbrev pub response_share : ℕ → Reading → ℕ
response_share mtu r = min mtu (r.length - r.sent * mtu)

abbrev pub response_pieces : ℕ → Reading → List Piece
response_pieces mtu r = pieces (record { key = r.key; offset = r.at; length = r.length } ∷ []) (r.sent * mtu) (response_share mtu r)

abbrev pub response_psn : Reading → ℕ
response_psn r = (r.psn + r.sent) % PSNS

-- a packet that answers the peer
abbrev pub answer_packet : Paired → Opcode → ℕ → Option Aeth → List ℕ → Content
answer_packet p opcode psn aeth payload = record {
  opcode = opcode_number opcode;
  solicited = false;
  migrated = false;
  pkey = DEFAULT_PKEY;
  dest = peer_of p;
  ack = false;
  psn = psn;
  reth = None;
  aeth = aeth;
  imm = None;
  ieth = None;
  deth = None;
  payload = payload;
}

abbrev pub response_content : Paired → Reading → List ℕ → Content
response_content p r payload =
    let spot = spot_of (packets_in (mtu_of p) r.length) r.sent in
    answer_packet p (response_opcode spot) (response_psn r) (response_aeth spot p.responder.msn) payload

-- the read after one more response: answered, if it was the last
abbrev pub read_on : ℕ → Reading → Option Reading
read_on mtu r = if nat_le (packets_in mtu r.length) (r.sent + 1) then None else Some (record r { sent = r.sent + 1 })

abbrev pub with_reading : Paired → Option Reading → Paired
with_reading p reading = with_responder p (record p.responder { reading = reading })

-- the bytes that are read, and the regions then
abbrev pub bytes_answered : Paired → Lent → Reading → List ℕ
bytes_answered p lent r =
    gathered (with_rooms_for lent (response_pieces (mtu_of p) r)) RemoteRead p.names.object p.names.domain (response_pieces (mtu_of p) r)

abbrev pub lent_answered : Paired → Lent → Reading → Lent
lent_answered p lent r =
    lent_read (with_rooms_for lent (response_pieces (mtu_of p) r)) RemoteRead p.names.object p.names.domain (response_pieces (mtu_of p) r)

abbrev pub response_made : Paired → Lent → Reading → Made
response_made p lent r = record {
  word = word.Answered;
  to = peer_device_of p;
  packets = response_content p r (bytes_answered p lent r) ∷ [];
  completions = [];
  pair = with_reading p (read_on (mtu_of p) r);
}

-- a region that isn't there or refuses it ends the answering, and breaks the queue pair

abbrev pub refusal_content : Paired → Reading → Content
refusal_content p r = answer_packet p Acknowledge (response_psn r) (Some (record { syndrome = NAK_ACCESS; msn = p.responder.msn })) []

abbrev pub answer_refused : Paired → Reading → Made
answer_refused p r = record {
  word = word.Failed;
  to = peer_device_of p;
  packets = refusal_content p r ∷ [];
  completions = [];
  pair = broken (with_reading p None);
}

abbrev pub answer_made : Paired → Lent → Reading → Made
answer_made p lent r =
    if lent_allows_all lent RemoteRead p.names.domain (response_pieces (mtu_of p) r) then response_made p lent r else answer_refused p r

abbrev pub lent_by_answer : Paired → Lent → Reading → Lent
lent_by_answer p lent r =
    if lent_allows_all lent RemoteRead p.names.domain (response_pieces (mtu_of p) r)
    then lent_answered p lent r
    else lent
