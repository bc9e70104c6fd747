-- The queue pair and the regions go on by all that turns and ticks make.
use Rattle.std.proofs.Common.{◌≡◌, ℕ, zero, suc, Bool, true, false, List, [], ◌∷◌, ◌++◌, Option, None, Some, IfSome, refl, subst, nat_lt, ◌&&◌, length}
use Rattle.std.specs.Option.{option_map, option_to_list}
use Rattle.std.specs.Prelude.{if◌then◌else◌, is_some, slice_get}
use Rattle.uv_num.specs.declared.qp.QpState.{QpState}
use Rattle.uv_num.specs.declared.qp.QpState.TheVariants.{Reset, Init, Rtr, Rts, Err}
use Rattle.uv_num.specs.declared.qp.Service.{Service}
use Rattle.uv_num.specs.declared.qp.Service.TheVariants.{Rc, Ud}
use Rattle.uv_qp.specs.declared.state.Reading.{Reading}
use Rattle.uv_qp.specs.declared.turns.TurnWord.TheVariants as word
use Rattle.uv_qp.specs.GoingOn.{TurnGoesOn}
use Rattle.uv_qp.specs.Laws.{TurnsGoOn, TurnsGoOnInTurn}
use Rattle.uv_qp.specs.Pairs.{Paired, mtu_of, next_receive, next_send, retries_of}
use Rattle.uv_qp.specs.Writers.{broken, receive_completion, receive_ended, send_completed, send_completion, send_ended}
use Rattle.uv_region.specs.declared.action.Access.{Access}
use Rattle.uv_region.specs.declared.action.Access.TheVariants as access
use Rattle.uv_region.specs.declared.piece.Piece.{Piece}
use Rattle.uv_region.specs.GoingOn.{LentGoesOn}
use Rattle.uv_region.specs.Laws.{LentRegionsGoOn}
use Rattle.uv_region.specs.Lent.{Lent}
use Rattle.uv_region.specs.Several.{lent_allows_all, lent_read, with_rooms_for}
use Rattle.uv_wr.specs.declared.completion.Status.{Status}
use Rattle.uv_wr.specs.declared.completion.Status.TheVariants as status
use Rattle.uv_wr.specs.Works.{Receiving, Sending}
use Rattle.uv_requester.specs.Answers.{answer_made, answer_refused, answered_read, lent_answered, response_made, response_pieces, with_reading}
use Rattle.uv_requester.specs.Ends.{Made, GoesOnByMade, ends_next, failed_at, flush_completions, flush_made, receive_flushed, send_flushed, sends_flushed}
use Rattle.uv_requester.specs.Segments.{pieces_at}
use Rattle.uv_requester.specs.Sends.{datagram_made, datagram_packed, datagram_sent, is_too_long, lent_by_datagram, lent_by_packing, lent_by_request, lent_by_send, lent_packed, lent_request_at, may_pack, next_request, request_at, request_made, request_sent, send_made}
use Rattle.uv_requester.specs.Ticks.{is_outstanding, is_sending_state, put_elsewhere, resent, tick_made, ticked, woken}
use Rattle.uv_requester.specs.Turns.{lent_by_turn, lent_in_state, lent_with, made_in_state, made_with, send_turn_made}

-- the queue pair

abbrev GoesOn : Paired → Option Made → Type 0
GoesOn p o = IfSome o (GoesOnByMade p)

either : (b : Bool) (p : Paired) (m n : Option Made) → GoesOn p m → GoesOn p n → GoesOn p (if b then m else n)
either true p m n h k = h
either false p m n h k = k

either_made : (b : Bool) (p : Paired) (m n : Made) → GoesOnByMade p m → GoesOnByMade p n → GoesOnByMade p (if b then m else n)
either_made true p m n h k = h
either_made false p m n h k = k

itself : TurnsGoOn → (p : Paired) → TurnGoesOn p [] p
itself law p = (law p).requester p.requester

-- works that end

ends_by : TurnsGoOn → (p : Paired) (st : Status) (o : Option Sending) → next_send p ≡ o → TurnGoesOn p (option_to_list (option_map (send_completion p.names st) o)) (send_ended p st o)
ends_by law p st None is = itself law p
ends_by law p st (Some w) is =
    let P : Option Sending → Type 0 = λ x. TurnGoesOn p (send_completion p.names st w ∷ []) (send_ended p st x) in
    subst P is ((law p).send st w is)

ends : TurnsGoOn → (p : Paired) (st : Status) → TurnGoesOn p (ends_next p st) (send_completed p st)
ends law p st = ends_by law p st (next_send p) refl

flushes : TurnsGoOn → TurnsGoOnInTurn → (p : Paired) (n : ℕ) → TurnGoesOn p (flush_completions p n) (sends_flushed p n)
flushes law chain p zero = itself law p
flushes law chain p (suc n) =
    chain p (sends_flushed p n) (send_completed (sends_flushed p n) status.WrFlushErr) (flush_completions p n) (ends_next (sends_flushed p n) status.WrFlushErr)
    (flushes law chain p n) (ends law (sends_flushed p n) status.WrFlushErr)

fails : TurnsGoOn → TurnsGoOnInTurn → (p : Paired) (place : ℕ) (st : Status) → GoesOnByMade p (failed_at p place st)
fails law chain p place st =
    chain p (broken p) (send_completed (sends_flushed (broken p) place) st) [] (flush_completions (broken p) place ++ ends_next (sends_flushed (broken p) place) st)
    (law p).broken
    (chain (broken p) (sends_flushed (broken p) place) (send_completed (sends_flushed (broken p) place) st) (flush_completions (broken p) place) (ends_next (sends_flushed (broken p) place) st)
    (flushes law chain (broken p) place) (ends law (sends_flushed (broken p) place) st))

receives_by : TurnsGoOn → (p : Paired) (o : Option Receiving) → next_receive p ≡ o
    → TurnGoesOn p (option_to_list (option_map (receive_completion p.names status.WrFlushErr 0 None) o)) (receive_ended p status.WrFlushErr 0 None o)
receives_by law p None is = itself law p
receives_by law p (Some w) is =
    let P : Option Receiving → Type 0 = λ x. TurnGoesOn p (receive_completion p.names status.WrFlushErr 0 None w ∷ []) (receive_ended p status.WrFlushErr 0 None x) in
    subst P is ((law p).receive status.WrFlushErr 0 None w is)

flush_goes_on : TurnsGoOn → (p : Paired) → GoesOn p (flush_made p)
flush_goes_on law p =
    either (is_some (next_send p)) p (Some (send_flushed p)) (if is_some (next_receive p) then Some (receive_flushed p) else None) (ends law p status.WrFlushErr)
    (either (is_some (next_receive p)) p (Some (receive_flushed p)) None (receives_by law p (next_receive p) refl) tt)

-- packets that are sent

request_goes_on : TurnsGoOn → TurnsGoOnInTurn → (p : Paired) (lent : Lent) (place at : ℕ) (o : Option Sending) → GoesOn p (request_made p lent place at o)
request_goes_on law chain p lent place at None = tt
request_goes_on law chain p lent place at (Some w) =
    either_made (may_pack lent p.names (mtu_of p) w at) p (request_sent p lent at w) (failed_at p place status.LocProtErr) ((law p).requester _) (fails law chain p place status.LocProtErr)

requests_go_on : TurnsGoOn → TurnsGoOnInTurn → (p : Paired) (lent : Lent) (o : Option (ℕ × ℕ)) → GoesOn p (request_at p lent o)
requests_go_on law chain p lent None = tt
requests_go_on law chain p lent (Some l) = request_goes_on law chain p lent l.0 l.1 (slice_get p.sends.works l.0)

packed_goes_on : TurnsGoOn → TurnsGoOnInTurn → (p : Paired) (lent : Lent) (o : Option Sending) → GoesOn p (datagram_packed p lent o)
packed_goes_on law chain p lent None = tt
packed_goes_on law chain p lent (Some w) =
    either_made (may_pack lent p.names (mtu_of p) w 0) p (datagram_sent p lent w) (failed_at p 0 status.LocProtErr) (ends law p status.Success) (fails law chain p 0 status.LocProtErr)

datagram_goes_on : TurnsGoOn → TurnsGoOnInTurn → (p : Paired) (lent : Lent) (o : Option Sending) → GoesOn p (datagram_made p lent o)
datagram_goes_on law chain p lent None = tt
datagram_goes_on law chain p lent (Some w) =
    either (is_too_long w) p (Some (failed_at p 0 status.LocLenErr)) (datagram_packed p lent (Some w)) (fails law chain p 0 status.LocLenErr) (packed_goes_on law chain p lent (Some w))

send_goes_on : TurnsGoOn → TurnsGoOnInTurn → (p : Paired) (lent : Lent) (s : Service) → GoesOn p (send_made p lent s)
send_goes_on law chain p lent Rc = requests_go_on law chain p lent (next_request p)
send_goes_on law chain p lent Ud = datagram_goes_on law chain p lent (next_send p)

state_goes_on : TurnsGoOn → TurnsGoOnInTurn → (p : Paired) (lent : Lent) (s : QpState) → GoesOn p (made_in_state p lent s)
state_goes_on law chain p lent Reset = tt
state_goes_on law chain p lent Init = tt
state_goes_on law chain p lent Rtr = tt
state_goes_on law chain p lent Rts = send_goes_on law chain p lent p.service
state_goes_on law chain p lent Err = flush_goes_on law p

answer_goes_on : TurnsGoOn → TurnsGoOnInTurn → (p : Paired) (lent : Lent) (r : Reading) → GoesOnByMade p (answer_made p lent r)
answer_goes_on law chain p lent r =
    either_made (lent_allows_all lent access.RemoteRead p.names.domain (response_pieces (mtu_of p) r)) p (response_made p lent r) (answer_refused p r) ((law p).responder _)
    (chain p (with_reading p None) (broken (with_reading p None)) [] [] ((law p).responder _) (law (with_reading p None)).broken)

turn_by : TurnsGoOn → TurnsGoOnInTurn → (p : Paired) (lent : Lent) (o : Option Reading) → GoesOn p (made_with p lent o)
turn_by law chain p lent None = state_goes_on law chain p lent p.state
turn_by law chain p lent (Some r) = answer_goes_on law chain p lent r

pub turn_goes_on : TurnsGoOn → TurnsGoOnInTurn → (p : Paired) (lent : Lent) → GoesOn p (send_turn_made p lent)
turn_goes_on law chain p lent = turn_by law chain p lent (answered_read p)

-- ticks

pub tick_goes_on : TurnsGoOn → TurnsGoOnInTurn → (p : Paired) → GoesOn p (tick_made p)
tick_goes_on law chain p =
    either (is_sending_state p.state && is_outstanding p.requester) p (Some (ticked p)) None
    (either_made p.requester.paused p (put_elsewhere word.Woken p (woken p.requester)) (if nat_lt p.requester.retried (retries_of p) then put_elsewhere word.Resent p (resent p.requester) else failed_at p 0 status.RetryExcErr)
    ((law p).requester _)
    (either_made (nat_lt p.requester.retried (retries_of p)) p (put_elsewhere word.Resent p (resent p.requester)) (failed_at p 0 status.RetryExcErr) ((law p).requester _) (fails law chain p 0 status.RetryExcErr)))
    tt

-- the regions

abbrev LentOn : Paired → Lent → Lent → Type 0
LentOn p lent new = LentGoesOn p.names.object p.names.domain lent new

either_lent : (b : Bool) (p : Paired) (lent m n : Lent) → LentOn p lent m → LentOn p lent n → LentOn p lent (if b then m else n)
either_lent true p lent m n h k = h
either_lent false p lent m n h k = k

stays : LentRegionsGoOn → (p : Paired) (lent : Lent) → LentOn p lent lent
stays law p lent = (law p.names.object p.names.domain).itself lent

read_on : LentRegionsGoOn → (p : Paired) (lent : Lent) (kind : Access) (found : List Piece) → LentOn p lent (lent_read (with_rooms_for lent found) kind p.names.object p.names.domain found)
read_on law p lent kind found =
    (law p.names.object p.names.domain).in_turn lent (with_rooms_for lent found) (lent_read (with_rooms_for lent found) kind p.names.object p.names.domain found)
    ((law p.names.object p.names.domain).rooms lent found (length found))
    ((law p.names.object p.names.domain).reads (with_rooms_for lent found) kind found)

request_lent : LentRegionsGoOn → (p : Paired) (lent : Lent) (at : ℕ) (o : Option Sending) → LentOn p lent (lent_by_request p lent at o)
request_lent law p lent at None = stays law p lent
request_lent law p lent at (Some w) =
    either_lent (may_pack lent p.names (mtu_of p) w at) p lent (lent_packed lent p.names (pieces_at (mtu_of p) w at)) lent (read_on law p lent access.LocalRead (pieces_at (mtu_of p) w at)) (stays law p lent)

requests_lent : LentRegionsGoOn → (p : Paired) (lent : Lent) (o : Option (ℕ × ℕ)) → LentOn p lent (lent_request_at p lent o)
requests_lent law p lent None = stays law p lent
requests_lent law p lent (Some l) = request_lent law p lent l.1 (slice_get p.sends.works l.0)

packing_lent : LentRegionsGoOn → (p : Paired) (lent : Lent) (o : Option Sending) → LentOn p lent (lent_by_packing p lent o)
packing_lent law p lent None = stays law p lent
packing_lent law p lent (Some w) =
    either_lent (may_pack lent p.names (mtu_of p) w 0) p lent (lent_packed lent p.names (pieces_at (mtu_of p) w 0)) lent (read_on law p lent access.LocalRead (pieces_at (mtu_of p) w 0)) (stays law p lent)

datagram_lent : LentRegionsGoOn → (p : Paired) (lent : Lent) (o : Option Sending) → LentOn p lent (lent_by_datagram p lent o)
datagram_lent law p lent None = stays law p lent
datagram_lent law p lent (Some w) = either_lent (is_too_long w) p lent lent (lent_by_packing p lent (Some w)) (stays law p lent) (packing_lent law p lent (Some w))

send_lent : LentRegionsGoOn → (p : Paired) (lent : Lent) (s : Service) → LentOn p lent (lent_by_send p lent s)
send_lent law p lent Rc = requests_lent law p lent (next_request p)
send_lent law p lent Ud = datagram_lent law p lent (next_send p)

state_lent : LentRegionsGoOn → (p : Paired) (lent : Lent) (s : QpState) → LentOn p lent (lent_in_state p lent s)
state_lent law p lent Reset = stays law p lent
state_lent law p lent Init = stays law p lent
state_lent law p lent Rtr = stays law p lent
state_lent law p lent Rts = send_lent law p lent p.service
state_lent law p lent Err = stays law p lent

turn_lent_by : LentRegionsGoOn → (p : Paired) (lent : Lent) (o : Option Reading) → LentOn p lent (lent_with p lent o)
turn_lent_by law p lent None = state_lent law p lent p.state
turn_lent_by law p lent (Some r) =
    either_lent (lent_allows_all lent access.RemoteRead p.names.domain (response_pieces (mtu_of p) r)) p lent (lent_answered p lent r) lent (read_on law p lent access.RemoteRead (response_pieces (mtu_of p) r)) (stays law p lent)

pub turn_lent : LentRegionsGoOn → (p : Paired) (lent : Lent) → LentOn p lent (lent_by_turn p lent)
turn_lent law p lent = turn_lent_by law p lent (answered_read p)
