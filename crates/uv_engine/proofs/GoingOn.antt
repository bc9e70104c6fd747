-- Why what an action leaves goes on from what was lent.
use Rattle.std.proofs.Common.{◌≡◌, ◌⊎◌, inl, inr, ℕ, Bool, true, false, Option, Some, None, IfSome, List, [], refl, sym, ap, ◌∙◌, subst, if◌then◌else◌}
use Rattle.std.specs.Option.{option_map}
use Rattle.uv_queue.specs.Queued.{after_pop}
use Rattle.uv_wr.specs.declared.completion.Completion.{Completion}
use Rattle.uv_packet.specs.Packets.{Content}
use Rattle.uv_region.specs.GoingOn.{LentGoesOn}
use Rattle.uv_region.specs.Laws.{LentRegionsGoOn}
use Rattle.uv_region.specs.Lent as region
use Rattle.uv_region.specs.Lent.{StaysKnown}
use Rattle.uv_qp.specs.GoingOn.{TurnGoesOn}
use Rattle.uv_qp.specs.Laws.{TurnsGoOn}
use Rattle.uv_qp.specs.Pairs.{Paired}
use Rattle.uv_qp.specs.declared.turns.TurnWord.{TurnWord}
use Rattle.uv_qp.specs.declared.turns.TurnDone.{TurnDone}
use Rattle.uv_qp.specs.declared.turns.TurnDone.TheVariants as turn
use Rattle.uv_requester.specs.Ends.{GoesOnByMade, Made}
use Rattle.uv_requester.specs.Laws.{SendTurnsGoOn, TicksGoOn}
use Rattle.uv_requester.specs.Ticks.{tick_made}
use Rattle.uv_requester.specs.Turns.{lent_by_turn, send_turn_made}
use Rattle.uv_responder.specs.Turns.{readied, receive_for, shared_after, shared_popped, turn_made, RequestGives, RequestGoesOn, Shared, TurnMade}
use Rattle.uv_completer.specs.Laws.{RepliesGoOn}
use Rattle.uv_completer.specs.Replies.{lent_by_reply, reply_made}
use Rattle.uv_engine.specs.declared.acting.Did.{Did}
use Rattle.uv_engine.specs.declared.acting.Did.TheVariants as did
use Rattle.uv_engine.specs.declared.lent.Lent.{Lent}
use Rattle.uv_engine.specs.Acting.{made_by_requester, made_by_turn, response_action, send_action, tick_action, ActionGives, ActionMade, FinishGives, IsUntouched, RequestTurned}
use Rattle.uv_engine.specs.GoingOn.{ActionGoesOn, SharedGoesOn}
use Rattle.uv_engine.specs.Laws.{RungGoesOn}
use Rattle.uv_engine.specs.Ringing.{all_rung}
use Rattle.uv_engine.proofs.Ringed.{ringing_goes_on, rings_stay}

-- shared receive queues

shared_stays : (s : Shared) → SharedGoesOn s s
shared_stays None = tt
shared_stays (Some q) = inl refl

popped_goes_on : (s : Shared) → SharedGoesOn s (shared_popped s)
popped_goes_on None = tt
popped_goes_on (Some q) = inr refl

shared_goes_on : (takes : Bool) (s : Shared) → SharedGoesOn s (shared_after takes s)
shared_goes_on true s = popped_goes_on s
shared_goes_on false s = shared_stays s

taken_goes_on : (l : Lent) (c : Content) → SharedGoesOn l.srq (turn_made c l.qp l.regions l.srq).shared
taken_goes_on l c = shared_goes_on (readied c l.qp l.regions (receive_for l.qp l.srq)).plan.takes l.srq

-- a turn, and then the ringing of what it told

pub rung_after : (l : Lent) (q : Paired) (regions : region.Lent) (shared : Shared) (told : List Completion) (solicited : Bool)
    → TurnGoesOn l.qp told q → LentGoesOn l.qp.names.object l.qp.names.domain l.regions regions → SharedGoesOn l.srq shared
    → ActionGoesOn l (all_rung (record l { qp = q; regions = regions; srq = shared }) told solicited)
rung_after l q regions shared told solicited pair lent queue =
    let base : Lent = record l { qp = q; regions = regions; srq = shared } in
    let g : RungGoesOn told base (all_rung base told solicited) = ringing_goes_on base told solicited in
    record {
      told = told;
      pair = subst (λ v. TurnGoesOn l.qp told v) (sym g.qp) pair;
      regions = subst (λ v. LentGoesOn l.qp.names.object l.qp.names.domain l.regions v) (sym g.regions) lent;
      shared = subst (λ v. SharedGoesOn l.srq v) (sym g.srq) queue;
      rings = record { send = g.rings.send; receive = g.rings.receive; send_channel = g.rings.send_channel; receive_channel = g.rings.receive_channel };
    }

-- where nothing that counts has changed

untouched_so : (turns : TurnsGoOn) (lents : LentRegionsGoOn) (l : Lent) (regions : region.Lent) → StaysKnown l.regions regions → ActionGoesOn l (record l { regions = regions })
untouched_so turns lents l regions h =
    let s = rings_stay l in
    record {
      told = [];
      pair = (turns l.qp).requester l.qp.requester;
      regions = (lents l.qp.names.object l.qp.names.domain).known l.regions regions h;
      shared = shared_stays l.srq;
      rings = record { send = s.send; receive = s.receive; send_channel = s.send_channel; receive_channel = s.receive_channel };
    }

pub untouched_goes_on : (turns : TurnsGoOn) (lents : LentRegionsGoOn) (l left : Lent) → IsUntouched l left → ActionGoesOn l left
untouched_goes_on turns lents l left h = subst (λ v. ActionGoesOn l v) (sym h.rest_is) (untouched_so turns lents l left.regions h.regions_stay)

pub same_goes_on : (turns : TurnsGoOn) (lents : LentRegionsGoOn) (l : Lent) → ActionGoesOn l l
same_goes_on turns lents l = untouched_so turns lents l l.regions (record { same = λ key. refl })

-- an action that gives what its definition makes goes on where that does

pub gives_goes_on : (turns : TurnsGoOn) (lents : LentRegionsGoOn) (l : Lent) (m : Option ActionMade) (d : Did) (left : Lent)
    → IfSome m (λ a. ActionGoesOn l a.lent) → ActionGives m l d left → ActionGoesOn l left
gives_goes_on turns lents l None (did.Did word frames) left h g = absurd g
gives_goes_on turns lents l None did.Idle left h g = subst (λ v. ActionGoesOn l v) (sym g) (same_goes_on turns lents l)
gives_goes_on turns lents l None did.NoMemory left h g = untouched_goes_on turns lents l left g
gives_goes_on turns lents l (Some a) (did.Did word frames) left h g = subst (λ v. ActionGoesOn l v) (sym g.lent_is) h
gives_goes_on turns lents l (Some a) did.Idle left h g = absurd g
gives_goes_on turns lents l (Some a) did.NoMemory left h g = untouched_goes_on turns lents l left g

-- what the requester makes

requester_goes_on : (l : Lent) (regions : region.Lent) (m : Option Made) → LentGoesOn l.qp.names.object l.qp.names.domain l.regions regions
    → IfSome m (GoesOnByMade l.qp) → IfSome (option_map (made_by_requester l regions) m) (λ a. ActionGoesOn l a.lent)
requester_goes_on l regions None lent h = tt
requester_goes_on l regions (Some m) lent h = rung_after l m.pair regions l.srq m.completions false h lent (shared_stays l.srq)

pub send_goes_on : (l : Lent) → SendTurnsGoOn → IfSome (send_action l) (λ a. ActionGoesOn l a.lent)
send_goes_on l law = requester_goes_on l (lent_by_turn l.qp l.regions) (send_turn_made l.qp l.regions) (law l.qp l.regions).regions (law l.qp l.regions).pair

pub tick_goes_on : (lents : LentRegionsGoOn) (l : Lent) → TicksGoOn → IfSome (tick_action l) (λ a. ActionGoesOn l a.lent)
tick_goes_on lents l law =
    requester_goes_on l l.regions (tick_made l.qp) ((lents l.qp.names.object l.qp.names.domain).itself l.regions) (law l.qp)

-- what the completer makes

pub response_goes_on : (l : Lent) (c : Content) → RepliesGoOn → ActionGoesOn l (response_action l c).lent
response_goes_on l c law =
    let g = law c l.qp l.regions in
    rung_after l (reply_made c l.qp l.regions).pair (lent_by_reply c l.qp l.regions) l.srq (reply_made c l.qp l.regions).completions c.solicited g.pair g.regions (shared_stays l.srq)

-- what the responder makes, of which its turn tells

pub request_goes_on : (turns : TurnsGoOn) (lents : LentRegionsGoOn) (from : ℕ) (l now left : Lent) (c : Content) (done : TurnDone) (d : Did)
    → RequestTurned l c done now → RequestGoesOn done l.qp l.regions now.qp now.regions → FinishGives from now c.solicited done d left
    → ActionGoesOn l left
request_goes_on turns lents from l now left c turn.Idle d t g f = absurd g
request_goes_on turns lents from l now left c turn.NoMemory (did.Did told frames) t g f = absurd f
request_goes_on turns lents from l now left c turn.NoMemory did.Idle t g f = absurd f
request_goes_on turns lents from l now left c turn.NoMemory did.NoMemory t g f =
    let u = t.gives in
    let same : now ≡ record l { regions = now.regions } =
    t.rest ∙ ap (λ v. record l { qp = v; regions = now.regions; srq = now.srq }) u.pair_is ∙ ap (λ v. record l { regions = now.regions; srq = v }) u.shared_is in
    subst (λ v. ActionGoesOn l v) (sym (f ∙ same)) (untouched_so turns lents l now.regions u.regions_stay)
request_goes_on turns lents from l now left c (turn.Turned word to packets completions) did.Idle t g f = absurd f
request_goes_on turns lents from l now left c (turn.Turned word to packets completions) did.NoMemory t g f = absurd f
request_goes_on turns lents from l now left c (turn.Turned word to packets completions) (did.Did told frames) t g f =
    let u = t.gives in
    let queue : SharedGoesOn l.srq now.srq = subst (λ v. SharedGoesOn l.srq v) (sym u.shared_is) (taken_goes_on l c) in
    let rung : ActionGoesOn l (all_rung (record l { qp = now.qp; regions = now.regions; srq = now.srq }) completions c.solicited) =
    rung_after l now.qp now.regions now.srq completions c.solicited g.0 g.1 queue in
    subst (λ v. ActionGoesOn l v) (sym (f.lent_is ∙ ap (λ v. all_rung v completions c.solicited) t.rest)) rung
