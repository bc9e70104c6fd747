-- What the end of a turn gives.
use Rattle.std.proofs.Common.{◌≡◌, ◌≤◌, ◌∷◌, [], ℕ, Bool, true, false, List, Option, Some, None, IfSome, length, map, refl, sym, ap, ◌∙◌, arith, subst, if◌then◌else◌, nat_lt, ◌&&◌}
use Rattle.std.specs.Option.{option_map}
use Rattle.std.specs.Prelude.{is_some, slice_get}
use Rattle.uv_num.specs.declared.qp.QpState.{QpState}
use Rattle.uv_num.specs.declared.qp.QpState.TheVariants.{Reset, Init, Rtr, Rts, Err}
use Rattle.uv_num.specs.declared.qp.Service.{Service}
use Rattle.uv_num.specs.declared.qp.Service.TheVariants as service
use Rattle.uv_num.specs.Each.{Each}
use Rattle.uv_link.specs.declared.frame.Frame.{Frame}
use Rattle.uv_packet.specs.declared.packet.Packet.{Packet}
use Rattle.uv_packet.specs.Packets.{Content, content_of, IsPacketValue}
use Rattle.uv_qp.specs.declared.state.Reading.{Reading}
use Rattle.uv_qp.specs.declared.turns.TurnDone.{TurnDone}
use Rattle.uv_qp.specs.declared.turns.TurnDone.TheVariants as turn
use Rattle.uv_qp.specs.declared.turns.TurnWord.{TurnWord}
use Rattle.uv_qp.specs.Pairs.{IsPaired, Paired, mtu_of, next_receive, next_send, retries_of}
use Rattle.uv_region.specs.Lent as region
use Rattle.uv_region.specs.Lent.{known, StaysKnown}
use Rattle.uv_region.specs.Several.{lent_allows_all}
use Rattle.uv_region.specs.declared.action.Access.TheVariants as access
use Rattle.uv_wr.specs.declared.completion.Status.TheVariants as status
use Rattle.uv_wr.specs.Works.{Receiving, Sending}
use Rattle.uv_requester.specs.Answers.{answer_made, answer_refused, answered_read, response_made, response_pieces}
use Rattle.uv_requester.specs.Ends.{failed_at, flush_made, receive_flushed, send_flushed, LentGives, Made, MadeGives}
use Rattle.uv_requester.specs.Laws.{TurnsMakePackets}
use Rattle.uv_requester.specs.Sends.{datagram_made, datagram_packed, datagram_sent, is_too_long, may_pack, next_request, request_at, request_made, request_sent, send_made}
use Rattle.uv_requester.specs.Ticks.{is_outstanding, is_sending_state, tick_made, ticked}
use Rattle.uv_requester.specs.Turns.{made_in_state, made_with, send_turn_made}
use Rattle.uv_queue.specs.Queued.{Queued}
use Rattle.uv_packet.specs.Refusal.{packet_of}
use Rattle.uv_responder.specs.Turns.{turn_made, AnswersGoOut, GoOut, RequestGives, TurnMade}
use Rattle.uv_completer.specs.Replies.{lent_by_reply, reply_made, FillGives, ReplyGives, ReplyMade}
use Rattle.uv_engine.specs.declared.acting.Did.{Did}
use Rattle.uv_engine.specs.declared.acting.Did.TheVariants as did
use Rattle.uv_engine.specs.declared.lent.Lent.{Lent}
use Rattle.uv_engine.specs.Acting.{all_framed, delivery_action, made_by_requester, only_word, request_action, response_action, with_turn, ActionGives, ActionMade, FinishGives, FrameGives, IsUntouched, RequestTurned, SendsNothing, TellsWord}
use Rattle.uv_engine.specs.Ringing.{all_rung}

-- where memory ran out

untouched : (lent : Lent) (regions : region.Lent) (left : Lent) → left ≡ record lent { regions = regions } → StaysKnown lent.regions regions → IsUntouched lent left
untouched lent regions left e h = subst (λ v. IsUntouched lent v) (sym e) (record { rest_is = refl; regions_stay = h })

stays_known : (regions : region.Lent) → StaysKnown regions regions
stays_known regions = record { same = λ key. refl }

-- a turn that makes no packet sends nothing

abbrev IsQuiet : Made → Type 0
IsQuiet m = m.packets ≡ []

no_packets : (packets : List Packet) → map content_of packets ≡ [] → packets ≡ []
no_packets [] h = refl
no_packets (p ∷ packets) h = cc

quiet_made : (p q : Paired) (m : Option Made) (done : TurnDone) → IfSome m IsQuiet → MadeGives p m done q → SendsNothing done
quiet_made p q None (turn.Turned word to packets completions) quiet g = absurd g
quiet_made p q (Some m) (turn.Turned word to packets completions) quiet g = no_packets packets (g.sent ∙ quiet)
quiet_made p q m turn.Idle quiet g = tt
quiet_made p q m turn.NoMemory quiet g = tt

quiet_if : (b : Bool) (m : Made) → IsQuiet m → IfSome (if b then Some m else None) IsQuiet
quiet_if true m quiet = quiet
quiet_if false m quiet = tt

quiet_either : (b : Bool) (m n : Made) → IsQuiet m → IsQuiet n → IsQuiet (if b then m else n)
quiet_either true m n first second = first
quiet_either false m n first second = second

pub tick_quiet : (p q : Paired) (done : TurnDone) → MadeGives p (tick_made p) done q → SendsNothing done
tick_quiet p q done g =
    quiet_made p q (tick_made p) done
    (quiet_if (is_sending_state p.state && is_outstanding p.requester) (ticked p)
    (quiet_either p.requester.paused _ _ refl (quiet_either (nat_lt p.requester.retried (retries_of p)) _ _ refl refl)))
    g

pub reply_quiet : (p q : Paired) (m : ReplyMade) (done : TurnDone) → ReplyGives p m done q → SendsNothing done
reply_quiet p q m (turn.Turned word to packets completions) g = g.no_packets
reply_quiet p q m turn.Idle g = absurd g
reply_quiet p q m turn.NoMemory g = tt

-- a send turn makes one packet at most, which may be written as bytes

abbrev IsFew : Made → Type 0
IsFew m = length m.packets ≤ 1

few_either : (b : Bool) (m n : Made) → IsFew m → IsFew n → IsFew (if b then m else n)
few_either true m n first second = first
few_either false m n first second = second

few_flush : (send receive : Bool) (p : Paired) → IfSome (if send then Some (send_flushed p) else (if receive then Some (receive_flushed p) else None)) IsFew
few_flush true receive p = omega arith
few_flush false true p = omega arith
few_flush false false p = tt

few_request : (p : Paired) (lent : region.Lent) (place at : ℕ) (w : Option Sending) → IfSome (request_made p lent place at w) IsFew
few_request p lent place at None = tt
few_request p lent place at (Some w) = few_either (may_pack lent p.names (mtu_of p) w at) (request_sent p lent at w) (failed_at p place status.LocProtErr) (omega arith) (omega arith)

few_located : (p : Paired) (lent : region.Lent) (l : Option (ℕ × ℕ)) → IfSome (request_at p lent l) IsFew
few_located p lent None = tt
few_located p lent (Some l) = few_request p lent l.0 l.1 (slice_get p.sends.works l.0)

few_packed : (p : Paired) (lent : region.Lent) (w : Sending) (long : Bool) → IfSome (if long then Some (failed_at p 0 status.LocLenErr) else datagram_packed p lent (Some w)) IsFew
few_packed p lent w true = omega arith
few_packed p lent w false = few_either (may_pack lent p.names (mtu_of p) w 0) (datagram_sent p lent w) (failed_at p 0 status.LocProtErr) (omega arith) (omega arith)

few_datagram : (p : Paired) (lent : region.Lent) (w : Option Sending) → IfSome (datagram_made p lent w) IsFew
few_datagram p lent None = tt
few_datagram p lent (Some w) = few_packed p lent w (is_too_long w)

few_sent : (p : Paired) (lent : region.Lent) (kind : Service) → IfSome (send_made p lent kind) IsFew
few_sent p lent service.Rc = few_located p lent (next_request p)
few_sent p lent service.Ud = few_datagram p lent (next_send p)

few_in_state : (p : Paired) (lent : region.Lent) (state : QpState) → IfSome (made_in_state p lent state) IsFew
few_in_state p lent Reset = tt
few_in_state p lent Init = tt
few_in_state p lent Rtr = tt
few_in_state p lent Rts = few_sent p lent p.service
few_in_state p lent Err = few_flush (is_some (next_send p)) (is_some (next_receive p)) p

few_with : (p : Paired) (lent : region.Lent) (reading : Option Reading) → IfSome (made_with p lent reading) IsFew
few_with p lent None = few_in_state p lent p.state
few_with p lent (Some r) = few_either (lent_allows_all lent access.RemoteRead p.names.domain (response_pieces (mtu_of p) r)) (response_made p lent r) (answer_refused p r) (omega arith) (omega arith)

two_are_not_few : (p q : Packet) (packets : List Packet) → length (map content_of (p ∷ q ∷ packets)) ≤ 1 → ⊥
two_are_not_few p q packets h = omega (arith, h)

few_packets : (packets : List Packet) (contents : List Content) → map content_of packets ≡ contents → length contents ≤ 1 → length packets ≤ 1
few_packets [] contents e h = omega arith
few_packets (p ∷ []) contents e h = omega arith
few_packets (p ∷ q ∷ packets) contents e h = absurd (two_are_not_few p q packets (subst (λ v. length v ≤ 1) (sym e) h))

first_value : (packets : List Packet) (contents : List Content) → map content_of packets ≡ contents → Each IsPacketValue contents
    → (p : Packet) → slice_get packets 0 ≡ Some p → IsPacketValue (content_of p)
first_value [] contents e h p first = cc
first_value (q ∷ packets) contents e h p first =
    let all : Each IsPacketValue (map content_of (q ∷ packets)) = subst (λ v. Each IsPacketValue v) (sym e) h in
    let same : q ≡ p = cc in
    subst (λ v. IsPacketValue (content_of v)) same all.0

goes_out : (p q : Paired) (m : Option Made) (done : TurnDone) → IfSome m IsFew → IfSome m (λ a. Each IsPacketValue a.packets) → MadeGives p m done q → AnswersGoOut done
goes_out p q None (turn.Turned word to packets completions) few value g = absurd g
goes_out p q (Some m) (turn.Turned word to packets completions) few value g =
    record { few = few_packets packets m.packets g.sent few; value = first_value packets m.packets g.sent value }
goes_out p q m turn.Idle few value g = tt
goes_out p q m turn.NoMemory few value g = tt

pub send_goes_out : TurnsMakePackets → (p q : Paired) (lent : region.Lent) (done : TurnDone) → IsPaired p → MadeGives p (send_turn_made p lent) done q → AnswersGoOut done
send_goes_out law p q lent done paired g = goes_out p q (send_turn_made p lent) done (few_with p lent (answered_read p)) (law p lent paired) g

-- a turn of the requester gives what its definition makes

-- with the queue pair and the regions that a turn left
finished_untouched : (lent : Lent) (q : Paired) (regions : region.Lent) (left : Lent) → q ≡ lent.qp → StaysKnown lent.regions regions
    → left ≡ with_turn lent q regions → IsUntouched lent left
finished_untouched lent q regions left e h f = untouched lent regions left (f ∙ ap (λ v. record lent { qp = v; regions = regions }) e) h

finished_idle : (lent : Lent) (q : Paired) (regions : region.Lent) (left : Lent) → q ≡ lent.qp → regions ≡ lent.regions
    → left ≡ with_turn lent q regions → left ≡ lent
finished_idle lent q regions left e h f = f ∙ ap (λ v. record lent { qp = v; regions = regions }) e ∙ ap (λ v. record lent { regions = v }) h

pub made_gives : (from : ℕ) (lent : Lent) (q : Paired) (made regions : region.Lent) (m : Option Made) (done : TurnDone) (d : Did) (left : Lent)
    → from ≡ lent.qp.names.device → MadeGives lent.qp m done q → LentGives lent.regions made done regions
    → FinishGives from (with_turn lent q regions) false done d left
    → ActionGives (option_map (made_by_requester lent made) m) lent d left
made_gives from lent q made regions None (turn.Turned word to packets completions) d left e g r f = absurd g
made_gives from lent q made regions None turn.NoMemory d left e g r f = absurd g
made_gives from lent q made regions None turn.Idle (did.Did told frames) left e g r f = absurd f
made_gives from lent q made regions None turn.Idle did.Idle left e g r f = finished_idle lent q regions left g r f
made_gives from lent q made regions None turn.Idle did.NoMemory left e g r f = absurd f
made_gives from lent q made regions (Some m) turn.Idle d left e g r f = absurd g
made_gives from lent q made regions (Some m) turn.NoMemory (did.Did told frames) left e g r f = absurd f
made_gives from lent q made regions (Some m) turn.NoMemory did.Idle left e g r f = absurd f
made_gives from lent q made regions (Some m) turn.NoMemory did.NoMemory left e g r f = finished_untouched lent q regions left g r f
made_gives from lent q made regions (Some m) (turn.Turned word to packets completions) did.Idle left e g r f = absurd f
made_gives from lent q made regions (Some m) (turn.Turned word to packets completions) did.NoMemory left e g r f = absurd f
made_gives from lent q made regions (Some m) (turn.Turned word to packets completions) (did.Did told frames) left e g r f = record {
  word_is = f.word_is ∙ g.word;
  frames_are =
      f.frames_are ∙ ap (λ v. all_framed v to (map content_of packets)) e ∙ ap (λ v. all_framed lent.qp.names.device v (map content_of packets)) g.device
      ∙ ap (λ v. all_framed lent.qp.names.device m.to v) g.sent;
  lent_is =
      f.lent_is ∙ ap (λ v. all_rung (with_turn lent q regions) v false) g.ended ∙ ap (λ v. all_rung (with_turn lent v regions) m.completions false) g.pair
      ∙ ap (λ v. all_rung (with_turn lent m.pair v) m.completions false) r;
}

-- a tick leaves the regions
same_lent : (lent : region.Lent) (done : TurnDone) → LentGives lent lent done lent
same_lent lent (turn.Turned word to packets completions) = refl
same_lent lent turn.Idle = refl
same_lent lent turn.NoMemory = stays_known lent

pub tick_gives : (from : ℕ) (lent : Lent) (q : Paired) (m : Option Made) (done : TurnDone) (d : Did) (left : Lent)
    → from ≡ lent.qp.names.device → MadeGives lent.qp m done q → FinishGives from (record lent { qp = q }) false done d left
    → ActionGives (option_map (made_by_requester lent lent.regions) m) lent d left
tick_gives from lent q m done d left e g f = made_gives from lent q lent.regions lent.regions m done d left e g (same_lent lent.regions done) f

-- and so does one of the completer

pub response_gives : (from : ℕ) (lent : Lent) (c : Content) (q : Paired) (regions : region.Lent) (done : TurnDone) (d : Did) (left : Lent)
    → ReplyGives lent.qp (reply_made c lent.qp lent.regions) done q → FillGives lent.regions (lent_by_reply c lent.qp lent.regions) done regions
    → FinishGives from (with_turn lent q regions) c.solicited done d left
    → ActionGives (Some (response_action lent c)) lent d left
response_gives from lent c q regions turn.Idle d left g r f = absurd g
response_gives from lent c q regions turn.NoMemory (did.Did told frames) left g r f = absurd f
response_gives from lent c q regions turn.NoMemory did.Idle left g r f = absurd f
response_gives from lent c q regions turn.NoMemory did.NoMemory left g r f = finished_untouched lent q regions left g r f
response_gives from lent c q regions (turn.Turned word to packets completions) did.Idle left g r f = absurd f
response_gives from lent c q regions (turn.Turned word to packets completions) did.NoMemory left g r f = absurd f
response_gives from lent c q regions (turn.Turned word to packets completions) (did.Did told frames) left g r f = record {
  word_is = f.word_is ∙ g.word_is;
  frames_are = f.frames_are ∙ ap (λ v. all_framed from to (map content_of v)) g.no_packets;
  lent_is =
      f.lent_is ∙ ap (λ v. all_rung (with_turn lent q regions) v c.solicited) g.completions_are
      ∙ ap (λ v. all_rung (with_turn lent v regions) (reply_made c lent.qp lent.regions).completions c.solicited) g.pair_is
      ∙ ap (λ v. all_rung (with_turn lent (reply_made c lent.qp lent.regions).pair v) (reply_made c lent.qp lent.regions).completions c.solicited) r;
}

-- and one of the responder

pub request_gives : (from : ℕ) (lent now : Lent) (c : Content) (done : TurnDone) (d : Did) (left : Lent)
    → from ≡ lent.qp.names.device → RequestTurned lent c done now → FinishGives from now c.solicited done d left
    → ActionGives (Some (request_action lent c)) lent d left
request_gives from lent now c turn.Idle d left e t f = absurd t.gives
request_gives from lent now c turn.NoMemory (did.Did told frames) left e t f = absurd f
request_gives from lent now c turn.NoMemory did.Idle left e t f = absurd f
request_gives from lent now c turn.NoMemory did.NoMemory left e t f =
    let u = t.gives in
    untouched lent now.regions left
    (f ∙ t.rest ∙ ap (λ v. record lent { qp = v; regions = now.regions; srq = now.srq }) u.pair_is ∙ ap (λ v. record lent { regions = now.regions; srq = v }) u.shared_is)
    u.regions_stay
request_gives from lent now c (turn.Turned word to packets completions) did.Idle left e t f = absurd f
request_gives from lent now c (turn.Turned word to packets completions) did.NoMemory left e t f = absurd f
request_gives from lent now c (turn.Turned word to packets completions) (did.Did told frames) left e t f =
    let u = t.gives in
    let m : TurnMade = turn_made c lent.qp lent.regions lent.srq in
    record {
      word_is = f.word_is ∙ u.word_is;
      frames_are =
          f.frames_are ∙ ap (λ v. all_framed v to (map content_of packets)) e ∙ ap (λ v. all_framed lent.qp.names.device v (map content_of packets)) u.to_is
          ∙ ap (λ v. all_framed lent.qp.names.device m.to v) u.packets_are;
      lent_is =
          f.lent_is ∙ ap (λ v. all_rung v completions c.solicited) t.rest
          ∙ ap (λ v. all_rung (record lent { qp = now.qp; regions = now.regions; srq = now.srq }) v c.solicited) u.completions_are
          ∙ ap (λ v. all_rung (record lent { qp = v; regions = now.regions; srq = now.srq }) m.completions c.solicited) u.pair_is
          ∙ ap (λ v. all_rung (record lent { qp = m.pair; regions = v; srq = now.srq }) m.completions c.solicited) u.regions_are
          ∙ ap (λ v. all_rung (record lent { qp = m.pair; regions = m.regions; srq = v }) m.completions c.solicited) u.shared_is;
    }

-- and what only tells a word

pub told_gives : (word : TurnWord) (lent : Lent) (d : Did) → TellsWord word d → ActionGives (Some (only_word word lent)) lent d lent
told_gives word lent (did.Did told frames) h = record { word_is = h.0; frames_are = h.1; lent_is = refl }
told_gives word lent did.Idle h = absurd h
told_gives word lent did.NoMemory h = absurd h

-- where memory runs out before a turn

nothing_done : (lent : Lent) → IsUntouched lent lent
nothing_done lent = record { rest_is = refl; regions_stay = stays_known lent.regions }

pub no_memory_gives : (m : Option ActionMade) (lent : Lent) → ActionGives m lent did.NoMemory lent
no_memory_gives None lent = nothing_done lent
no_memory_gives (Some m) lent = nothing_done lent

-- the turn of a request, with the shared receive queue taken out and put back

pub own_turned : (l : Lent) (c : Content) (done : TurnDone) (q : Paired) (regions : region.Lent) → l.srq ≡ None
    → RequestGives (turn_made c l.qp l.regions None) l.qp l.regions None done q regions None
    → RequestTurned l c done (record l { qp = q; regions = regions; srq = None })
own_turned l c done q regions e h = record {
  gives = subst (λ v. RequestGives (turn_made c l.qp l.regions v) l.qp l.regions v done q regions None) (sym e) h;
  rest = refl;
}

pub shared_turned : (l : Lent) (c : Content) (queue left : Queued Receiving) (done : TurnDone) (q : Paired) (regions : region.Lent)
    → l.srq ≡ Some queue
    → RequestGives (turn_made c l.qp l.regions (Some queue)) l.qp l.regions (Some queue) done q regions (Some left)
    → RequestTurned l c done (record l { qp = q; regions = regions; srq = Some left })
shared_turned l c queue left done q regions e h = record {
  gives = subst (λ v. RequestGives (turn_made c l.qp l.regions v) l.qp l.regions v done q regions (Some left)) (sym e) h;
  rest = refl;
}

-- a delivery, by its tests

pub chosen_gives : (b : Bool) (first second : ActionMade) (lent : Lent) (d : Did) (left : Lent) → b ≡ true → ActionGives (Some first) lent d left
    → ActionGives (Some (if b then first else second)) lent d left
chosen_gives b first second lent d left h g = subst (λ v. ActionGives (Some (if v then first else second)) lent d left) (sym h) g

pub other_gives : (b : Bool) (first second : ActionMade) (lent : Lent) (d : Did) (left : Lent) → b ≡ false → ActionGives (Some second) lent d left
    → ActionGives (Some (if b then first else second)) lent d left
other_gives b first second lent d left h g = subst (λ v. ActionGives (Some (if v then first else second)) lent d left) (sym h) g

-- a frame, of the packet that it is

pub frame_gives : (frame : Frame) (lent : Lent) (d : Did) (left : Lent) (c : Content) → packet_of frame.bytes.bytes ≡ Some c
    → ActionGives (Some (delivery_action lent frame.from frame.to c)) lent d left → FrameGives frame lent d left
frame_gives frame lent d left c e g other h =
    let same : c ≡ other = cc in
    subst (λ v. ActionGives (Some (delivery_action lent frame.from frame.to v)) lent d left) same g

pub unread_gives : (frame : Frame) (lent : Lent) → FrameGives frame lent did.NoMemory lent
unread_gives frame lent c h = nothing_done lent
