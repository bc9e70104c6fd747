-- The packets of a send turn can be written as bytes.
use Rattle.std.proofs.Common.{◌≡◌, ℕ, ◌+◌, ◌-◌, ◌*◌, ◌<◌, ◌≤◌, ◌^◌, min, Bool, true, false, List, [], ◌∷◌, ◌++◌, length, Option, None, Some, IfSome, refl, subst, arith, drop}
use Rattle.std.proofs.Math.Nat.{mod-lt}
use Rattle.std.proofs.lemmas.List.{length-append, length-take, nil_from_length}
use Rattle.std.proofs.lemmas.List.Sums.{sum_by-cons}
use Rattle.std.specs.FinMap as map
use Rattle.std.specs.Prelude.{if◌then◌else◌, is_some, slice_get, IsSomeAnd}
use Rattle.uv_num.proofs.EachLaws.{Each_item}
use Rattle.uv_num.specs.declared.qp.QpState.{QpState}
use Rattle.uv_num.specs.declared.qp.QpState.TheVariants.{Reset, Init, Rtr, Rts, Err}
use Rattle.uv_num.specs.declared.qp.Service.{Service}
use Rattle.uv_num.specs.declared.qp.Service.TheVariants as service
use Rattle.uv_num.specs.declared.limits.TheConstants.{QP_NUMBERS, PACKET_PAYLOAD}
use Rattle.uv_num.specs.Each.{Each}
use Rattle.uv_packet.specs.declared.opcode.Opcode.TheVariants.{Acknowledge}
use Rattle.uv_packet.specs.declared.packet.Aeth.{Aeth}
use Rattle.uv_packet.specs.Opcodes.{headers_of, opcode_number, opcode_of}
use Rattle.uv_packet.specs.Packets.{HasHeaders, IsPacketValue}
use Rattle.uv_qp.specs.declared.state.Reading.{Reading}
use Rattle.uv_qp.specs.Laws.{PiecesAreFew, ToldIsInRange}
use Rattle.uv_qp.specs.PacketCounts.{packets_in}
use Rattle.uv_qp.specs.Pairs.{IsPaired, Paired, mtu_of, next_receive, next_send}
use Rattle.uv_qp.specs.Services.{IsServed, fits_service}
use Rattle.uv_region.specs.declared.action.Access.{Access}
use Rattle.uv_region.specs.declared.action.Access.TheVariants as access
use Rattle.uv_region.specs.declared.piece.Piece.{Piece}
use Rattle.uv_region.specs.Actions.{PlainAction, is_read}
use Rattle.uv_region.specs.Lent.{Lent, ReachedRegion, bytes_read, lent_after, lent_bytes}
use Rattle.uv_region.specs.Replay.{standing}
use Rattle.uv_region.specs.Several.{gathered, lent_allows_all, piece_length, piece_reading, pieces_length, with_rooms_for}
use Rattle.uv_wr.specs.declared.completion.Status.TheVariants as status
use Rattle.uv_wr.specs.declared.work.Op.{Op}
use Rattle.uv_wr.specs.declared.work.Op.TheVariants as op
use Rattle.uv_wr.specs.Works.{IsAddressed, Sending, whole_length}
use Rattle.uv_requester.specs.declared.segment.Course.{Course}
use Rattle.uv_requester.specs.declared.segment.Spot.{Spot}
use Rattle.uv_requester.specs.declared.segment.Spot.TheVariants.{Only, First, Middle, Last}
use Rattle.uv_requester.specs.Segments.{spot_of, is_first_spot, is_last_spot, op_deth, op_dest, op_imm, op_opcode, op_reth, op_share, op_spot, pieces_at, segment, work_share}
use Rattle.uv_requester.specs.SendPlaces.{is_read_op}
use Rattle.uv_requester.specs.declared.sending.TheConstants.{DATAGRAM_BYTES}
use Rattle.uv_requester.specs.Answers.{answer_made, answer_refused, answered_read, bytes_answered, response_aeth, response_made, response_opcode, response_pieces, response_share}
use Rattle.uv_requester.specs.Ends.{Made, failed_at, receive_flushed, send_flushed}
use Rattle.uv_requester.specs.Sends.{bytes_packed, course_of, datagram_made, datagram_packed, datagram_sent, is_too_long, may_pack, next_request, packed_content, request_at, request_made, request_sent, send_made}
use Rattle.uv_requester.specs.Turns.{made_in_state, made_with, send_turn_made}

-- bytes that are read are no more than their pieces have

read_few : (b : Bool) (a : PlainAction) (bytes : List ℕ) → length (if b then standing a bytes else []) ≤ a.length
read_few true a bytes =
    let e : length (standing a bytes) ≡ min a.length (length (drop a.offset bytes)) = length-take a.length (drop a.offset bytes) in
    omega (arith, e)
read_few false a bytes = omega arith

reached_few : (a : PlainAction) (o : Option ReachedRegion) → length (bytes_read a o) ≤ a.length
reached_few a None = omega arith
reached_few a (Some r) = read_few (is_read a.kind) a r.0.bytes

gathered_few : (lent : Lent) (kind : Access) (qp domain : ℕ) (ps : List Piece) → length (gathered lent kind qp domain ps) ≤ pieces_length ps
gathered_few lent kind qp domain [] = omega arith
gathered_few lent kind qp domain (p ∷ ps) =
    let a : PlainAction = piece_reading kind qp domain p in
    let one : length (lent_bytes lent p.key (piece_reading kind qp domain p)) ≤ p.length = reached_few (piece_reading kind qp domain p) (map.get lent p.key) in
    let rest : length (gathered (lent_after lent p.key (piece_reading kind qp domain p)) kind qp domain ps) ≤ pieces_length ps = gathered_few (lent_after lent p.key (piece_reading kind qp domain p)) kind qp domain ps in
    let both : length (lent_bytes lent p.key (piece_reading kind qp domain p) ++ gathered (lent_after lent p.key (piece_reading kind qp domain p)) kind qp domain ps)
    ≡ length (lent_bytes lent p.key (piece_reading kind qp domain p)) + length (gathered (lent_after lent p.key (piece_reading kind qp domain p)) kind qp domain ps)
    = length-append (lent_bytes lent p.key (piece_reading kind qp domain p)) (gathered (lent_after lent p.key (piece_reading kind qp domain p)) kind qp domain ps) in
    let all : pieces_length (p ∷ ps) ≡ p.length + pieces_length ps = sum_by-cons piece_length p ps in
    omega (arith, one, rest, both, all)

-- a request has the headers of its opcode

headed : (o : Op) (s : Spot) (size from source : ℕ) (payload : List ℕ) (opcode : ℕ) (solicited migrated : Bool) (pkey dest : ℕ) (ack : Bool) (psn : ℕ)
    → (is_read_op o ≡ true → payload ≡ [])
    → IsSomeAnd (headers_of (opcode_number (op_opcode o s))) (λ h. HasHeaders h (record {
      opcode = opcode;
      solicited = solicited;
      migrated = migrated;
      pkey = pkey;
      dest = dest;
      ack = ack;
      psn = psn;
      reth = op_reth o (is_first_spot s) size from;
      aeth = None;
      imm = op_imm o (is_last_spot s);
      ieth = None;
      deth = op_deth o source;
      payload = payload;
    }))
unfolding opcode_of
headed op.Send Only size from source payload opcode solicited migrated pkey dest ack psn none = record { reth = refl; aeth = refl; deth = refl; imm = refl; ieth = refl; payload = λ e. cc }
headed op.Send First size from source payload opcode solicited migrated pkey dest ack psn none = record { reth = refl; aeth = refl; deth = refl; imm = refl; ieth = refl; payload = λ e. cc }
headed op.Send Middle size from source payload opcode solicited migrated pkey dest ack psn none = record { reth = refl; aeth = refl; deth = refl; imm = refl; ieth = refl; payload = λ e. cc }
headed op.Send Last size from source payload opcode solicited migrated pkey dest ack psn none = record { reth = refl; aeth = refl; deth = refl; imm = refl; ieth = refl; payload = λ e. cc }
headed (op.SendImm imm) Only size from source payload opcode solicited migrated pkey dest ack psn none = record { reth = refl; aeth = refl; deth = refl; imm = refl; ieth = refl; payload = λ e. cc }
headed (op.SendImm imm) First size from source payload opcode solicited migrated pkey dest ack psn none = record { reth = refl; aeth = refl; deth = refl; imm = refl; ieth = refl; payload = λ e. cc }
headed (op.SendImm imm) Middle size from source payload opcode solicited migrated pkey dest ack psn none = record { reth = refl; aeth = refl; deth = refl; imm = refl; ieth = refl; payload = λ e. cc }
headed (op.SendImm imm) Last size from source payload opcode solicited migrated pkey dest ack psn none = record { reth = refl; aeth = refl; deth = refl; imm = refl; ieth = refl; payload = λ e. cc }
headed (op.Write at key) Only size from source payload opcode solicited migrated pkey dest ack psn none = record { reth = refl; aeth = refl; deth = refl; imm = refl; ieth = refl; payload = λ e. cc }
headed (op.Write at key) First size from source payload opcode solicited migrated pkey dest ack psn none = record { reth = refl; aeth = refl; deth = refl; imm = refl; ieth = refl; payload = λ e. cc }
headed (op.Write at key) Middle size from source payload opcode solicited migrated pkey dest ack psn none = record { reth = refl; aeth = refl; deth = refl; imm = refl; ieth = refl; payload = λ e. cc }
headed (op.Write at key) Last size from source payload opcode solicited migrated pkey dest ack psn none = record { reth = refl; aeth = refl; deth = refl; imm = refl; ieth = refl; payload = λ e. cc }
headed (op.WriteImm at key imm) Only size from source payload opcode solicited migrated pkey dest ack psn none = record { reth = refl; aeth = refl; deth = refl; imm = refl; ieth = refl; payload = λ e. cc }
headed (op.WriteImm at key imm) First size from source payload opcode solicited migrated pkey dest ack psn none = record { reth = refl; aeth = refl; deth = refl; imm = refl; ieth = refl; payload = λ e. cc }
headed (op.WriteImm at key imm) Middle size from source payload opcode solicited migrated pkey dest ack psn none = record { reth = refl; aeth = refl; deth = refl; imm = refl; ieth = refl; payload = λ e. cc }
headed (op.WriteImm at key imm) Last size from source payload opcode solicited migrated pkey dest ack psn none = record { reth = refl; aeth = refl; deth = refl; imm = refl; ieth = refl; payload = λ e. cc }
headed (op.Read at key) s size from source payload opcode solicited migrated pkey dest ack psn none = record { reth = refl; aeth = refl; deth = refl; imm = refl; ieth = refl; payload = λ e. none refl }
headed (op.Ud device qp qkey) s size from source payload opcode solicited migrated pkey dest ack psn none = record { reth = refl; aeth = refl; deth = refl; imm = refl; ieth = refl; payload = λ e. cc }
headed (op.UdImm device qp qkey imm) s size from source payload opcode solicited migrated pkey dest ack psn none = record { reth = refl; aeth = refl; deth = refl; imm = refl; ieth = refl; payload = λ e. cc }

dest_fits : (o : Op) (peer : ℕ) → IsAddressed o → peer < QP_NUMBERS → op_dest o peer < QP_NUMBERS
dest_fits op.Send peer to h = h
dest_fits (op.SendImm imm) peer to h = h
dest_fits (op.Write at key) peer to h = h
dest_fits (op.WriteImm at key imm) peer to h = h
dest_fits (op.Read at key) peer to h = h
dest_fits (op.Ud device qp qkey) peer to h = to.numbered
dest_fits (op.UdImm device qp qkey imm) peer to h = to.numbered

source_fits : (o : Op) (source : ℕ) → source < 2 ^ 24 → IfSome (op_deth o source) (λ d. d.source < 2 ^ 24)
source_fits op.Send source h = tt
source_fits (op.SendImm imm) source h = tt
source_fits (op.Write at key) source h = tt
source_fits (op.WriteImm at key imm) source h = tt
source_fits (op.Read at key) source h = tt
source_fits (op.Ud device qp qkey) source h = h
source_fits (op.UdImm device qp qkey imm) source h = h

pub segment_value : (w : Sending) (c : Course) (at : ℕ) (payload : List ℕ) → c.dest < QP_NUMBERS → c.source < QP_NUMBERS → IsAddressed w.op
    → length payload ≤ PACKET_PAYLOAD → (is_read_op w.op ≡ true → payload ≡ []) → IsPacketValue (segment w c at payload)
segment_value w c at payload dest source to few none = record {
  headed = headed w.op (op_spot c.mtu w.op (whole_length w.parts) at) (whole_length w.parts) (at * c.mtu) c.source payload _ _ _ _ _ _ _ none;
  dest = dest_fits w.op c.dest to dest;
  psn = mod-lt (c.psn + at) (omega arith);
  msn = tt;
  source = source_fits w.op c.source source;
  payload = few;
}

-- the requests

rc_share : (o : Op) (mtu size at : ℕ) → fits_service service.Rc o ≡ true → op_share mtu o size at ≤ mtu
rc_share op.Send mtu size at h = omega arith
rc_share (op.SendImm imm) mtu size at h = omega arith
rc_share (op.Write place key) mtu size at h = omega arith
rc_share (op.WriteImm place key imm) mtu size at h = omega arith
rc_share (op.Read place key) mtu size at h = omega arith
rc_share (op.Ud device qp qkey) mtu size at h = cc
rc_share (op.UdImm device qp qkey imm) mtu size at h = cc

ud_share : (o : Op) (mtu size at : ℕ) → fits_service service.Ud o ≡ true → op_share mtu o size at ≤ size
ud_share op.Send mtu size at h = cc
ud_share (op.SendImm imm) mtu size at h = cc
ud_share (op.Write place key) mtu size at h = cc
ud_share (op.WriteImm place key imm) mtu size at h = cc
ud_share (op.Read place key) mtu size at h = cc
ud_share (op.Ud device qp qkey) mtu size at h = omega arith
ud_share (op.UdImm device qp qkey imm) mtu size at h = omega arith

read_share : (o : Op) (mtu size at : ℕ) → is_read_op o ≡ true → op_share mtu o size at ≡ 0
read_share op.Send mtu size at h = cc
read_share (op.SendImm imm) mtu size at h = cc
read_share (op.Write place key) mtu size at h = cc
read_share (op.WriteImm place key imm) mtu size at h = cc
read_share (op.Read place key) mtu size at h = refl
read_share (op.Ud device qp qkey) mtu size at h = cc
read_share (op.UdImm device qp qkey imm) mtu size at h = cc

packed_value : PiecesAreFew → ToldIsInRange → (p : Paired) (lent : Lent) (ahead : ℕ) (w : Sending) (at : ℕ) → IsPaired p → IsAddressed w.op
    → work_share (mtu_of p) w at ≤ PACKET_PAYLOAD → IsPacketValue (packed_content lent p.names (course_of p ahead) w at)
packed_value few told p lent ahead w at h to short =
    let found : List Piece = pieces_at (mtu_of p) w at in
    let read : length (bytes_packed lent p.names (pieces_at (mtu_of p) w at)) ≤ pieces_length (pieces_at (mtu_of p) w at)
    = gathered_few (with_rooms_for lent (pieces_at (mtu_of p) w at)) access.LocalRead p.names.object p.names.domain (pieces_at (mtu_of p) w at) in
    let most : pieces_length (pieces_at (mtu_of p) w at) ≤ work_share (mtu_of p) w at = few w.parts (at * mtu_of p) (work_share (mtu_of p) w at) in
    segment_value w (course_of p ahead) at (bytes_packed lent p.names (pieces_at (mtu_of p) w at)) (told p h).peer (omega (arith, h.cell)) to (omega (arith, read, most, short))
    (λ e. nil_from_length (bytes_packed lent p.names (pieces_at (mtu_of p) w at)) (omega (arith, read, most, read_share w.op (mtu_of p) (whole_length w.parts) at e)))

abbrev Good : Made → Type 0
Good m = Each IsPacketValue m.packets

abbrev AllGood : Option Made → Type 0
AllGood o = IfSome o Good

either_good : (b : Bool) (m n : Made) → Good m → Good n → Good (if b then m else n)
either_good true m n h k = h
either_good false m n h k = k

either_on : (b : Bool) (m n : Option Made) → AllGood m → (b ≡ false → AllGood n) → AllGood (if b then m else n)
either_on true m n h k = h
either_on false m n h k = k refl

request_good : PiecesAreFew → ToldIsInRange → (p : Paired) (lent : Lent) (place at : ℕ) (o : Option Sending) → IsPaired p → p.service ≡ service.Rc
    → slice_get p.sends.works place ≡ o → AllGood (request_made p lent place at o)
request_good few told p lent place at None h is there = tt
request_good few told p lent place at (Some w) h is there =
    let served : IsServed p.service w = Each_item (IsServed p.service) p.sends.works place w there h.served in
    let fits : fits_service service.Rc w.op ≡ true = subst (λ s. fits_service s w.op ≡ true) is served.fits in
    let mtu : mtu_of p ≤ 4096 = (told p h).mtu in
    let share : work_share (mtu_of p) w at ≤ mtu_of p = rc_share w.op (mtu_of p) (whole_length w.parts) at fits in
    either_good (may_pack lent p.names (mtu_of p) w at) (request_sent p lent at w) (failed_at p place status.LocProtErr)
    (packed_value few told p lent (p.requester.next - at) w at h served.addressed (omega (arith, mtu, share)), tt) tt

requests_good : PiecesAreFew → ToldIsInRange → (p : Paired) (lent : Lent) (o : Option (ℕ × ℕ)) → IsPaired p → p.service ≡ service.Rc → AllGood (request_at p lent o)
requests_good few told p lent None h is = tt
requests_good few told p lent (Some l) h is = request_good few told p lent l.0 l.1 (slice_get p.sends.works l.0) h is refl

datagram_good : PiecesAreFew → ToldIsInRange → (p : Paired) (lent : Lent) (o : Option Sending) → IsPaired p → p.service ≡ service.Ud
    → slice_get p.sends.works 0 ≡ o → AllGood (datagram_made p lent o)
datagram_good few told p lent None h is there = tt
datagram_good few told p lent (Some w) h is there =
    let served : IsServed p.service w = Each_item (IsServed p.service) p.sends.works 0 w there h.served in
    let fits : fits_service service.Ud w.op ≡ true = subst (λ s. fits_service s w.op ≡ true) is served.fits in
    let share : work_share (mtu_of p) w 0 ≤ whole_length w.parts = ud_share w.op (mtu_of p) (whole_length w.parts) 0 fits in
    either_on (is_too_long w) (Some (failed_at p 0 status.LocLenErr)) (datagram_packed p lent (Some w)) tt
    (λ e.
    let short : whole_length w.parts ≤ DATAGRAM_BYTES = grind (arith, e) in
    either_good (may_pack lent p.names (mtu_of p) w 0) (datagram_sent p lent w) (failed_at p 0 status.LocProtErr)
    (packed_value few told p lent 0 w 0 h served.addressed (omega (arith, short, share)), tt) tt)

send_good : PiecesAreFew → ToldIsInRange → (p : Paired) (lent : Lent) (s : Service) → IsPaired p → p.service ≡ s → AllGood (send_made p lent s)
send_good few told p lent service.Rc h is = requests_good few told p lent (next_request p) h is
send_good few told p lent service.Ud h is = datagram_good few told p lent (next_send p) h is refl

flush_good : (a b : Bool) (m n : Made) → Good m → Good n → AllGood (if a then Some m else (if b then Some n else None))
flush_good true b m n h k = h
flush_good false true m n h k = k
flush_good false false m n h k = tt

state_good : PiecesAreFew → ToldIsInRange → (p : Paired) (lent : Lent) (s : QpState) → IsPaired p → AllGood (made_in_state p lent s)
state_good few told p lent Reset h = tt
state_good few told p lent Init h = tt
state_good few told p lent Rtr h = tt
state_good few told p lent Rts h = send_good few told p lent p.service h refl
state_good few told p lent Err h = flush_good (is_some (next_send p)) (is_some (next_receive p)) (send_flushed p) (receive_flushed p) tt tt

-- the answers

response_headed : (s : Spot) (msn : ℕ) (opcode : ℕ) (solicited migrated : Bool) (pkey dest : ℕ) (ack : Bool) (psn : ℕ) (payload : List ℕ)
    → IsSomeAnd (headers_of (opcode_number (response_opcode s))) (λ h. HasHeaders h (record {
      opcode = opcode;
      solicited = solicited;
      migrated = migrated;
      pkey = pkey;
      dest = dest;
      ack = ack;
      psn = psn;
      reth = None;
      aeth = response_aeth s msn;
      imm = None;
      ieth = None;
      deth = None;
      payload = payload;
    }))
unfolding opcode_of
response_headed Only msn opcode solicited migrated pkey dest ack psn payload = record { reth = refl; aeth = refl; deth = refl; imm = refl; ieth = refl; payload = λ e. cc }
response_headed First msn opcode solicited migrated pkey dest ack psn payload = record { reth = refl; aeth = refl; deth = refl; imm = refl; ieth = refl; payload = λ e. cc }
response_headed Middle msn opcode solicited migrated pkey dest ack psn payload = record { reth = refl; aeth = refl; deth = refl; imm = refl; ieth = refl; payload = λ e. cc }
response_headed Last msn opcode solicited migrated pkey dest ack psn payload = record { reth = refl; aeth = refl; deth = refl; imm = refl; ieth = refl; payload = λ e. cc }

response_msn : (s : Spot) (msn : ℕ) → msn < 2 ^ 24 → IfSome (response_aeth s msn) (λ a. a.msn < 2 ^ 24)
response_msn Only msn h = h
response_msn First msn h = h
response_msn Middle msn h = tt
response_msn Last msn h = h

refusal_headed : (aeth : Aeth) (opcode : ℕ) (solicited migrated : Bool) (pkey dest : ℕ) (ack : Bool) (psn : ℕ)
    → IsSomeAnd (headers_of (opcode_number Acknowledge)) (λ h. HasHeaders h (record {
      opcode = opcode;
      solicited = solicited;
      migrated = migrated;
      pkey = pkey;
      dest = dest;
      ack = ack;
      psn = psn;
      reth = None;
      aeth = Some aeth;
      imm = None;
      ieth = None;
      deth = None;
      payload = [];
    }))
unfolding opcode_of
refusal_headed aeth opcode solicited migrated pkey dest ack psn = record { reth = refl; aeth = refl; deth = refl; imm = refl; ieth = refl; payload = λ e. refl }

answer_good : PiecesAreFew → ToldIsInRange → (p : Paired) (lent : Lent) (r : Reading) → IsPaired p → Good (answer_made p lent r)
answer_good few told p lent r h =
    let s : Spot = spot_of (packets_in (mtu_of p) r.length) r.sent in
    let mtu : mtu_of p ≤ 4096 = (told p h).mtu in
    let read : length (bytes_answered p lent r) ≤ pieces_length (response_pieces (mtu_of p) r)
    = gathered_few (with_rooms_for lent (response_pieces (mtu_of p) r)) access.RemoteRead p.names.object p.names.domain (response_pieces (mtu_of p) r) in
    let most : pieces_length (response_pieces (mtu_of p) r) ≤ response_share (mtu_of p) r
    = few (record { key = r.key; offset = r.at; length = r.length } ∷ []) (r.sent * mtu_of p) (response_share (mtu_of p) r) in
    either_good (lent_allows_all lent access.RemoteRead p.names.domain (response_pieces (mtu_of p) r)) (response_made p lent r) (answer_refused p r) (
      record {
        headed = response_headed (spot_of (packets_in (mtu_of p) r.length) r.sent) p.responder.msn _ _ _ _ _ _ _ (bytes_answered p lent r);
        dest = (told p h).peer;
        psn = mod-lt (r.psn + r.sent) (omega arith);
        msn = response_msn (spot_of (packets_in (mtu_of p) r.length) r.sent) p.responder.msn h.responding.msn;
        source = tt;
        payload = omega (arith, read, most, mtu);
      },
      tt,
    ) (
      record {
        headed = refusal_headed _ _ _ _ _ _ _ _;
        dest = (told p h).peer;
        psn = mod-lt (r.psn + r.sent) (omega arith);
        msn = h.responding.msn;
        source = tt;
        payload = omega arith;
      },
      tt,
    )

turn_by_good : PiecesAreFew → ToldIsInRange → (p : Paired) (lent : Lent) (o : Option Reading) → IsPaired p → AllGood (made_with p lent o)
turn_by_good few told p lent None h = state_good few told p lent p.state h
turn_by_good few told p lent (Some r) h = answer_good few told p lent r h

pub turn_good : PiecesAreFew → ToldIsInRange → (p : Paired) (lent : Lent) → IsPaired p → AllGood (send_turn_made p lent)
turn_good few told p lent h = turn_by_good few told p lent (answered_read p) h
