-- Why ringing replaces nothing that is lent.
use Rattle.std.proofs.Common.{◌≡◌, ◌++◌, ◌&&◌, ◌⊎◌, inl, inr, ℕ, Bool, true, false, Option, Some, None, List, [], ◌∷◌, refl, sym, ap, ◌∙◌, append-nil, append_assoc, subst, if◌then◌else◌}
use Rattle.std.proofs.lemmas.List.Elements.{filter-append}
use Rattle.std.proofs.lemmas.List.Folds.{list_all-append}
use Rattle.std.specs.List.{list_all}
use Rattle.std.specs.Prelude.{filter}
use Rattle.uv_num.specs.Prefix.{IsPrefix}
use Rattle.uv_wr.specs.declared.completion.Completion.{Completion}
use Rattle.uv_cq.specs.Rings.{Ringed, push_told}
use Rattle.uv_cq.specs.Uses.{Use, after_use, after_uses}
use Rattle.uv_cq.specs.Uses.Use.{Pushes, Polls, Arms, Disarms}
use Rattle.uv_qp.specs.GoingOn.{is_of_receive, is_of_send, tells_receive}
use Rattle.uv_engine.specs.declared.lent.CqLent.{CqLent}
use Rattle.uv_engine.specs.declared.lent.Lent.{Lent}
use Rattle.uv_engine.specs.GoingOn.{is_ringing, pushed_in, told_to_sends, ChannelGoesOn, CqGoesOn, ReceiveGoesOn, RingGoesOn, RingsGoOn}
use Rattle.uv_engine.specs.Laws.{IsDisarmed, IsOnlyPushed, RungGoesOn}
use Rattle.uv_engine.specs.Ringing.{all_rung, channel_rung, cq_rung, has_event_room, is_shared, rung, rung_by_receive, rung_in_receives, rung_in_sends, with_event, LentChannel}

-- rings

uses_after : (r : Ringed) (uses more : List Use) → after_uses r (uses ++ more) ≡ after_uses (after_uses r uses) more
uses_after r [] more = refl
uses_after r (u ∷ uses) more = uses_after (after_use r u) uses more

pushed_more : (uses more : List Use) → pushed_in (uses ++ more) ≡ pushed_in uses ++ pushed_in more
pushed_more [] more = refl
pushed_more (Pushes c s ∷ uses) more = ap (λ v. c ∷ v) (pushed_more uses more)
pushed_more (Polls ∷ uses) more = pushed_more uses more
pushed_more (Arms s ∷ uses) more = pushed_more uses more
pushed_more (Disarms ∷ uses) more = pushed_more uses more

ring_stays : (r : Ringed) → RingGoesOn [] r r
ring_stays r = record { uses = []; ring = refl; only = refl; pushes = refl }

ring_in_turn : (first more : List Completion) (a b c : Ringed) → RingGoesOn first a b → RingGoesOn more b c → RingGoesOn (first ++ more) a c
ring_in_turn first more a b c h k = record {
  uses = h.uses ++ k.uses;
  ring = k.ring ∙ ap (λ v. after_uses v k.uses) h.ring ∙ sym (uses_after a h.uses k.uses);
  only = list_all-append is_ringing h.uses k.uses ∙ ap (λ v. v && list_all is_ringing k.uses) h.only ∙ k.only;
  pushes = pushed_more h.uses k.uses ∙ ap (λ v. v ++ pushed_in k.uses) h.pushes ∙ ap (λ v. first ++ v) k.pushes;
}

ring_by : (disarms : Bool) (r : Ringed) (c : Completion) (solicited : Bool) → RingGoesOn (c ∷ []) r (if disarms then after_use (after_use r (Pushes c solicited)) Disarms else after_use r (Pushes c solicited))
ring_by true r c solicited = record { uses = Pushes c solicited ∷ Disarms ∷ []; ring = refl; only = refl; pushes = refl }
ring_by false r c solicited = record { uses = Pushes c solicited ∷ []; ring = refl; only = refl; pushes = refl }

cq_stays : (cq : CqLent) → CqGoesOn [] cq cq
cq_stays cq = record { cell = refl; channel = refl; ring = ring_stays cq.ring }

cq_in_turn : (first more : List Completion) (a b c : CqLent) → CqGoesOn first a b → CqGoesOn more b c → CqGoesOn (first ++ more) a c
cq_in_turn first more a b c h k = record {
  cell = k.cell ∙ h.cell;
  channel = k.channel ∙ h.channel;
  ring = ring_in_turn first more a.ring b.ring c.ring h.ring k.ring;
}

cq_goes_on : (cq : CqLent) (channel : LentChannel) (c : Completion) (solicited : Bool) → CqGoesOn (c ∷ []) cq (cq_rung cq channel c solicited)
cq_goes_on cq channel c solicited = record {
  cell = refl;
  channel = refl;
  ring = ring_by ((push_told cq.ring c solicited).event && has_event_room channel) cq.ring c solicited;
}

-- channels

channel_stays : (ch : LentChannel) → ChannelGoesOn ch ch
channel_stays None = tt
channel_stays (Some events) = record { rest = []; goes_on = sym (append-nil events) }

channel_in_turn : (a b c : LentChannel) → ChannelGoesOn a b → ChannelGoesOn b c → ChannelGoesOn a c
channel_in_turn None None None h k = tt
channel_in_turn None None (Some c) h k = k
channel_in_turn None (Some b) None h k = tt
channel_in_turn None (Some b) (Some c) h k = h
channel_in_turn (Some a) None None h k = h
channel_in_turn (Some a) None (Some c) h k = absurd h
channel_in_turn (Some a) (Some b) None h k = k
channel_in_turn (Some a) (Some b) (Some c) h k = record { rest = h.rest ++ k.rest; goes_on = k.goes_on ∙ ap (λ v. v ++ k.rest) h.goes_on ∙ append_assoc a h.rest k.rest }

events_by : (room : Bool) (events : List ℕ) (cell : ℕ) → IsPrefix events (if room then events ++ cell ∷ [] else events)
events_by true events cell = record { rest = cell ∷ []; goes_on = refl }
events_by false events cell = record { rest = []; goes_on = sym (append-nil events) }

event_goes_on : (ch : LentChannel) (cell : ℕ) → ChannelGoesOn ch (with_event ch cell)
event_goes_on None cell = tt
event_goes_on (Some events) cell = events_by (has_event_room (Some events)) events cell

channel_by : (due : Bool) (ch : LentChannel) (cell : ℕ) → ChannelGoesOn ch (if due then with_event ch cell else ch)
channel_by true ch cell = event_goes_on ch cell
channel_by false ch cell = channel_stays ch

channel_goes_on : (cq : CqLent) (ch : LentChannel) (c : Completion) (solicited : Bool) → ChannelGoesOn ch (channel_rung cq ch c solicited)
channel_goes_on cq ch c solicited = channel_by (push_told cq.ring c solicited).event ch cq.cell

-- both rings, by the ring of the receives, if they have one of their own

sends_told_more : (receive : Option CqLent) (first more : List Completion) → told_to_sends receive (first ++ more) ≡ told_to_sends receive first ++ told_to_sends receive more
sends_told_more None first more = refl
sends_told_more (Some cq) first more = filter-append is_of_send first more

none_to_sends : (receive : Option CqLent) → told_to_sends receive [] ≡ []
none_to_sends None = refl
none_to_sends (Some cq) = refl

receive_stays : (cq : Option CqLent) → ReceiveGoesOn [] cq cq
receive_stays None = tt
receive_stays (Some cq) = cq_stays cq

receive_in_turn : (first more : List Completion) (a b c : Option CqLent) → ReceiveGoesOn first a b → ReceiveGoesOn more b c → ReceiveGoesOn (first ++ more) a c
receive_in_turn first more None None None h k = tt
receive_in_turn first more None None (Some c) h k = k
receive_in_turn first more None (Some b) None h k = tt
receive_in_turn first more None (Some b) (Some c) h k = h
receive_in_turn first more (Some a) None None h k = h
receive_in_turn first more (Some a) None (Some c) h k = absurd h
receive_in_turn first more (Some a) (Some b) None h k = k
receive_in_turn first more (Some a) (Some b) (Some c) h k =
    subst (λ v. CqGoesOn v a c) (sym (filter-append is_of_receive first more)) (cq_in_turn (filter is_of_receive first) (filter is_of_receive more) a b c h k)

-- what is told to the ring of the sends is the same before and after
same_sends_told : (first : List Completion) (a b : Option CqLent) → ReceiveGoesOn first a b → (more : List Completion) → told_to_sends b more ≡ told_to_sends a more
same_sends_told first None None h more = refl
same_sends_told first None (Some b) h more = absurd h
same_sends_told first (Some a) None h more = absurd h
same_sends_told first (Some a) (Some b) h more = refl

pub rings_stay : (l : Lent) → RingsGoOn [] l l
rings_stay l = record {
  send = subst (λ v. CqGoesOn v l.send l.send) (sym (none_to_sends l.receive)) (cq_stays l.send);
  receive = receive_stays l.receive;
  send_channel = channel_stays l.send_channel;
  receive_channel = channel_stays l.receive_channel;
}

sends_in_turn : (first more : List Completion) (a b c : Lent) → RingsGoOn first a b → RingsGoOn more b c → CqGoesOn (told_to_sends a.receive (first ++ more)) a.send c.send
sends_in_turn first more a b c h k =
    let second : CqGoesOn (told_to_sends a.receive more) b.send c.send = subst (λ v. CqGoesOn v b.send c.send) (same_sends_told first a.receive b.receive h.receive more) k.send in
    subst (λ v. CqGoesOn v a.send c.send) (sym (sends_told_more a.receive first more))
    (cq_in_turn (told_to_sends a.receive first) (told_to_sends a.receive more) a.send b.send c.send h.send second)

rings_in_turn : (first more : List Completion) (a b c : Lent) → RingsGoOn first a b → RingsGoOn more b c → RingsGoOn (first ++ more) a c
rings_in_turn first more a b c h k = record {
  send = sends_in_turn first more a b c h k;
  receive = receive_in_turn first more a.receive b.receive c.receive h.receive k.receive;
  send_channel = channel_in_turn a.send_channel b.send_channel c.send_channel h.send_channel k.send_channel;
  receive_channel = channel_in_turn a.receive_channel b.receive_channel c.receive_channel h.receive_channel k.receive_channel;
}

-- all that is lent

lent_stays : (l : Lent) → RungGoesOn [] l l
lent_stays l = record { qp = refl; srq = refl; regions = refl; rings = rings_stay l }

lent_in_turn : (first more : List Completion) (a b c : Lent) → RungGoesOn first a b → RungGoesOn more b c → RungGoesOn (first ++ more) a c
lent_in_turn first more a b c h k = record {
  qp = k.qp ∙ h.qp;
  srq = k.srq ∙ h.srq;
  regions = k.regions ∙ h.regions;
  rings = rings_in_turn first more a b c h.rings k.rings;
}

-- one completion

-- of a send, which is no receive's
one_to_sends : (receive : Option CqLent) (c : Completion) → is_of_receive c ≡ false → told_to_sends receive (c ∷ []) ≡ c ∷ []
one_to_sends None c h = refl
one_to_sends (Some cq) c h = rw h refl

send_leaves_receive : (receive : Option CqLent) (c : Completion) → is_of_receive c ≡ false → ReceiveGoesOn (c ∷ []) receive receive
send_leaves_receive None c h = tt
send_leaves_receive (Some cq) c h = rw h (cq_stays cq)

send_goes_on : (l : Lent) (c : Completion) (solicited : Bool) → is_of_receive c ≡ false → RungGoesOn (c ∷ []) l (rung_in_sends l c solicited)
send_goes_on l c solicited h = record {
  qp = refl;
  srq = refl;
  regions = refl;
  rings = record {
    send = subst (λ v. CqGoesOn v l.send (cq_rung l.send l.send_channel c solicited)) (sym (one_to_sends l.receive c h)) (cq_goes_on l.send l.send_channel c solicited);
    receive = send_leaves_receive l.receive c h;
    send_channel = channel_goes_on l.send l.send_channel c solicited;
    receive_channel = channel_stays l.receive_channel;
  };
}

-- of a receive, where both have one ring
shared_goes_on : (l : Lent) (c : Completion) (solicited : Bool) → l.receive ≡ None → RungGoesOn (c ∷ []) l (rung_in_sends l c solicited)
shared_goes_on l c solicited e = record {
  qp = refl;
  srq = refl;
  regions = refl;
  rings = record {
    send = subst (λ v. CqGoesOn (told_to_sends v (c ∷ [])) l.send (cq_rung l.send l.send_channel c solicited)) (sym e) (cq_goes_on l.send l.send_channel c solicited);
    receive = subst (λ v. ReceiveGoesOn (c ∷ []) v v) (sym e) tt;
    send_channel = channel_goes_on l.send l.send_channel c solicited;
    receive_channel = channel_stays l.receive_channel;
  };
}

-- where the receives have one of their own

receive_leaves_sends : (cq : CqLent) (c : Completion) → is_of_receive c ≡ true → told_to_sends (Some cq) (c ∷ []) ≡ []
receive_leaves_sends cq c h = rw h refl

receive_takes : (cq next : CqLent) (c : Completion) → is_of_receive c ≡ true → CqGoesOn (c ∷ []) cq next → ReceiveGoesOn (c ∷ []) (Some cq) (Some next)
receive_takes cq next c h g = rw h g

sends_stay : (l : Lent) (cq : CqLent) (c : Completion) → l.receive ≡ Some cq → is_of_receive c ≡ true → CqGoesOn (told_to_sends l.receive (c ∷ [])) l.send l.send
sends_stay l cq c e h = subst (λ v. CqGoesOn v l.send l.send) (sym (ap (λ v. told_to_sends v (c ∷ [])) e ∙ receive_leaves_sends cq c h)) (cq_stays l.send)

receives_by : (shared : Bool) (l : Lent) (cq : CqLent) (c : Completion) (solicited : Bool) → l.receive ≡ Some cq → is_of_receive c ≡ true
    → RungGoesOn (c ∷ []) l (if shared
    then record l { receive = Some (cq_rung cq l.send_channel c solicited); send_channel = channel_rung cq l.send_channel c solicited }
    else record l { receive = Some (cq_rung cq l.receive_channel c solicited); receive_channel = channel_rung cq l.receive_channel c solicited })
receives_by true l cq c solicited e h = record {
  qp = refl;
  srq = refl;
  regions = refl;
  rings = record {
    send = sends_stay l cq c e h;
    receive = subst (λ v. ReceiveGoesOn (c ∷ []) v (Some (cq_rung cq l.send_channel c solicited))) (sym e) (receive_takes cq (cq_rung cq l.send_channel c solicited) c h (cq_goes_on cq l.send_channel c solicited));
    send_channel = channel_goes_on cq l.send_channel c solicited;
    receive_channel = channel_stays l.receive_channel;
  };
}
receives_by false l cq c solicited e h = record {
  qp = refl;
  srq = refl;
  regions = refl;
  rings = record {
    send = sends_stay l cq c e h;
    receive = subst (λ v. ReceiveGoesOn (c ∷ []) v (Some (cq_rung cq l.receive_channel c solicited))) (sym e) (receive_takes cq (cq_rung cq l.receive_channel c solicited) c h (cq_goes_on cq l.receive_channel c solicited));
    send_channel = channel_stays l.send_channel;
    receive_channel = channel_goes_on cq l.receive_channel c solicited;
  };
}

receive_goes_on : (l : Lent) (receive : Option CqLent) (c : Completion) (solicited : Bool) → l.receive ≡ receive → is_of_receive c ≡ true → RungGoesOn (c ∷ []) l (rung_by_receive l receive c solicited)
receive_goes_on l None c solicited e h = shared_goes_on l c solicited e
receive_goes_on l (Some cq) c solicited e h = receives_by (is_shared l.send.channel cq.channel) l cq c solicited e h

one_by : (of_receive : Bool) (l : Lent) (c : Completion) (solicited : Bool) → is_of_receive c ≡ of_receive → RungGoesOn (c ∷ []) l (if of_receive then rung_by_receive l l.receive c solicited else rung_in_sends l c false)
one_by true l c solicited h = receive_goes_on l l.receive c solicited refl h
one_by false l c solicited h = send_goes_on l c false h

pub ringing_goes_on : (l : Lent) (cs : List Completion) (solicited : Bool) → RungGoesOn cs l (all_rung l cs solicited)
ringing_goes_on l [] solicited = lent_stays l
ringing_goes_on l (c ∷ cs) solicited =
    lent_in_turn (c ∷ []) cs l (rung l c solicited) (all_rung (rung l c solicited) cs solicited) (one_by (is_of_receive c) l c solicited refl) (ringing_goes_on (rung l c solicited) cs solicited)

-- a ring is disarmed exactly where its channel took the event

full_stays : (ch : LentChannel) (cell : ℕ) → has_event_room ch ≡ false → with_event ch cell ≡ ch
full_stays None cell h = refl
full_stays (Some events) cell h = rw h refl

disarms_by : (due room : Bool) (cq : CqLent) (ch : LentChannel) (c : Completion) (solicited : Bool)
    → (push_told cq.ring c solicited).event ≡ due → has_event_room ch ≡ room → IsOnlyPushed cq ch c solicited ⊎ IsDisarmed cq ch c solicited
disarms_by true true cq ch c solicited e h = inr (record { due = e; room = h; ring_is = rw (e, h) refl; events = rw e refl })
disarms_by true false cq ch c solicited e h = inl (record { ring_is = rw (e, h) refl; events = rw e (full_stays ch cq.cell h) })
disarms_by false room cq ch c solicited e h = inl (record { ring_is = rw e refl; events = rw e refl })

pub disarms_where_told : (cq : CqLent) (ch : LentChannel) (c : Completion) (solicited : Bool) → IsOnlyPushed cq ch c solicited ⊎ IsDisarmed cq ch c solicited
disarms_where_told cq ch c solicited = disarms_by (push_told cq.ring c solicited).event (has_event_room ch) cq ch c solicited refl refl
