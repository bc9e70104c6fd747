-- What a call holds exclusively stands there, for its next word.
use Rattle.uv_machine.specs.Accounts.{count_of}
use Rattle.std.proofs.Common.{◌≡◌, ◌≢◌, ℕ, Bool, true, false, List, [], ◌∷◌, ◌++◌, Option, Some, None, length, map, refl, ap, sym, ◌∙◌, subst, arith, inl, inr, ⊎_elim}
use Rattle.std.specs.Prelude.{not, ◌||◌, ◌&&◌, nat_lt, slice_get, filter, if◌then◌else◌}
use Rattle.std.proofs.lemmas.Option.{none-some, same_Some}
use Rattle.std.proofs.lemmas.Bool.{and_parts, or_left, eq-eqb, ne_eqb}
use Rattle.std.proofs.lemmas.Bool.Decides.{eqb_tells}
use Rattle.uv_num.specs.declared.errno.Errno.{Errno}
use Rattle.uv_num.specs.declared.limits.TheConstants.{ACTOR_PLACES, MOST_OBJECTS}
use Rattle.uv_num.specs.declared.request.Act as request
use Rattle.uv_num.specs.declared.request.Act.TheVariants.{Modify, Query, Bind, Unbind, Async}
use Rattle.uv_num.specs.declared.request.Ask.{Ask}
use Rattle.uv_num.specs.declared.request.Request.{Request}
use Rattle.uv_num.specs.declared.request.Role.{Role}
use Rattle.uv_num.specs.declared.request.Role.TheVariants.{Destroys}
use Rattle.uv_num.specs.Place.{at_place}
use Rattle.uv_machine.specs.declared.entry.Entry.{Entry}
use Rattle.uv_machine.specs.declared.entry.Entry.TheVariants.{Open, Enter, Step, Unplug, Tear, Kill, Gone, Dissociated, Closed}
use Rattle.uv_machine.specs.declared.entry.Word.{Word}
use Rattle.uv_machine.specs.declared.entry.Word.TheVariants.{Reserve, Look, Make, Commit, Act, Lock, Check, Finish, Abort, Free, Exit}
use Rattle.uv_machine.specs.declared.entry.Answer.{Answer}
use Rattle.uv_machine.specs.declared.object.Phase.{Phase}
use Rattle.uv_machine.specs.declared.object.Phase.TheVariants as phase
use Rattle.uv_machine.specs.declared.object.Object.{Object}
use Rattle.uv_machine.specs.declared.object.Change.{Change}
use Rattle.uv_machine.specs.declared.object.Change.TheVariants.{ToLive, ToDoomed, ToHusk, ToBound}
use Rattle.uv_machine.specs.declared.call.InFlight.{InFlight}
use Rattle.uv_machine.specs.declared.state.State.{State}
use Rattle.uv_machine.specs.Objects.{has_id, is_kind, is_made, is_live, is_doomed, is_husk, doomed_from, with_change, on_object}
use Rattle.uv_machine.specs.Plans.{plan_of, next_word, closing, own_object, acted_on, holds, looks_at, entered, with_refusal, with_number, with_look, with_made, with_outcome, with_lock, without_lock, without_number, without_look, moved_on}
use Rattle.uv_machine.specs.States.{call_of, object_with, has_others, is_quiet, is_tearing, is_callable, is_closing, has_standing, phase_of, start}
use Rattle.uv_machine.specs.Effects.{refusal_in, with_room_for, made_outcome, act, binding_of, not_with_id, not_in_file, gone_from, put_call, unless_answered}
use Rattle.uv_machine.specs.Outside.{may_go_object}
use Rattle.uv_machine.specs.Histories.{Allowed, after, state_from, IsLegalFrom}
use Rattle.uv_machine.specs.Reached.{IsIn, is_held_at, IsInPhaseFor, OwnStands, Reached}
use Rattle.uv_machine.specs.Laws.{LegalOwnStands}
use Rattle.uv_machine.proofs.Members.{IsIn-into_map, IsIn-append-left, IsIn-append-right}
use Rattle.uv_machine.proofs.Planned.{InPlan, IsClosing, unwinds, closing_unwinds, stands_in_plan, next_place-in_plan, next_word-planned, next_word-closing}
use Rattle.uv_machine.proofs.Turns.{Turn, Made, Locked, Checked, may_refuse, object_made, IsTurn-allowed}
use Rattle.uv_machine.proofs.Turns.Turn.{Refuses, Reserves, Looks, Makes, Commits, Does, Locks, Checks, Finishes, Aborts, Frees, Leaves}
use Rattle.uv_machine.proofs.OwnCall.{calls_turn}
use Rattle.uv_machine.proofs.Calling.{CallBehind, call_behind, quiet_none}
use Rattle.uv_machine.proofs.Phased.{looks_in, create_has, act_has}
use Rattle.uv_machine.proofs.Holding.{finish_objects}
use Rattle.uv_machine.proofs.Keeping.{locks_it, IsPublished, published_is, owns_at_check, owns_at_finish, owns_at_commit, not_swept}
use Rattle.uv_machine.proofs.Turning.{lock_parts, no_others, commits_next, finishes_next}
use Rattle.uv_machine.proofs.Reaching.{Reached-start, Reached-after, start_calls, call_of-alike, new_or_old, was_callable, IsSweptObject, killed_swept, gone_by}
use Rattle.uv_machine.proofs.Numbers.{Numbered, numbered_start, numbered_after, room_is, room_at}

-- The phases of what is held.

abbrev pub rests : Phase → Bool
rests p = is_live p || is_husk p

refusing_rests : (w : Word) (p : Phase) → may_refuse w ≡ true → is_held_at w p ≡ rests p
refusing_rests Reserve p e = refl
refusing_rests Look p e = refl
refusing_rests Make p e = refl
refusing_rests Commit p e = absurd cc
refusing_rests Act p e = refl
refusing_rests Lock p e = refl
refusing_rests Check p e = refl
refusing_rests Finish p e = absurd cc
refusing_rests Abort p e = absurd cc
refusing_rests Free p e = absurd cc
refusing_rests Exit p e = absurd cc

closing_rests : (w : Word) (p : Phase) → unwinds w ≡ true → is_held_at w p ≡ rests p
closing_rests Reserve p e = absurd cc
closing_rests Look p e = absurd cc
closing_rests Make p e = absurd cc
closing_rests Commit p e = absurd cc
closing_rests Act p e = absurd cc
closing_rests Lock p e = absurd cc
closing_rests Check p e = absurd cc
closing_rests Finish p e = absurd cc
closing_rests Abort p e = refl
closing_rests Free p e = refl
closing_rests Exit p e = refl

checked_held : (p : Phase) → rests p ≡ true → is_held_at Finish (doomed_from p) ≡ true
checked_held phase.Made e = absurd cc
checked_held phase.Live e = refl
checked_held phase.Doomed e = absurd cc
checked_held phase.Husk e = refl

rests_by : (p : Phase) → is_made p ≡ false → is_doomed p ≡ false → rests p ≡ true
rests_by phase.Made e e' = absurd cc
rests_by phase.Live e e' = refl
rests_by phase.Doomed e e' = absurd cc
rests_by phase.Husk e e' = refl

-- Objects that go on with their phase.

pub record GoesOn (objects' : List Object) (x : Object) : Type 0 where
  pub item : Object
  pub within : IsIn item objects'
  pub id : item.id ≡ x.id
  pub phase : item.phase ≡ x.phase

-- each object with this id goes on
abbrev pub KeepsOn : List Object → List Object → ℕ → Type 0
KeepsOn objects objects' o = (x : Object) → IsIn x objects → x.id ≡ o → GoesOn objects' x

stands_on : (w : Word) (objects objects' : List Object) (o : ℕ) → KeepsOn objects objects' o → IsInPhaseFor w objects o → IsInPhaseFor w objects' o
stands_on w objects objects' o keeps s =
    let g = keeps s.item s.within s.id in
    record { item = g.item; within = g.within; id = g.id ∙ s.id; held = ap (is_held_at w) g.phase ∙ s.held }

on_same : (objects : List Object) (o : ℕ) → KeepsOn objects objects o
on_same objects o x k e = record { item = x; within = k; id = refl; phase = refl }

other_is : (b : Bool) (change : Change) (x : Object) → b ≡ false → (if b then with_change change x else x) ≡ x
other_is true change x e = absurd cc
other_is false change x e = refl

-- a change of another object
on_other : (objects : List Object) (o i : ℕ) (change : Change) → i ≢ o → KeepsOn objects (map (on_object i change) objects) o
on_other objects o i change ne x k e =
    let same : on_object i change x ≡ x = other_is (has_id i x) change x (ne_eqb x.id i (λ e'. ne (sym e' ∙ e))) in
    record {
      item = on_object i change x;
      within = IsIn-into_map (on_object i change) x objects k;
      id = ap (λ (v : Object). v.id) same;
      phase = ap (λ (v : Object). v.phase) same;
    }

bound_id : (b : Bool) (x : Object) (change : Change) (binding : _) → change ≡ ToBound binding → ((if b then with_change change x else x).id ≡ x.id) × ((if b then with_change change x else x).phase ≡ x.phase)
bound_id true x change binding e = rw e (refl, refl)
bound_id false x change binding e = (refl, refl)

-- a bind of any
on_bound : (objects : List Object) (o i : ℕ) (change : Change) (binding : _) → change ≡ ToBound binding → KeepsOn objects (map (on_object i change) objects) o
on_bound objects o i change binding is x k e =
    let same = bound_id (has_id i x) x change binding is in
    record { item = on_object i change x; within = IsIn-into_map (on_object i change) x objects k; id = same.0; phase = same.1 }

into_filter_by : (p : Object → Bool) (y : Object) (ys : List Object) (x : Object) (b : Bool) → p y ≡ b → IsIn x (y ∷ ys) → p x ≡ true → (IsIn x ys → IsIn x (filter p ys)) → IsIn x (filter p (y ∷ ys))
into_filter_by p y ys x true e (inl same) test later = rw e (inl same)
into_filter_by p y ys x true e (inr k) test later = rw e (inr (later k))
into_filter_by p y ys x false e (inl same) test later = absurd (let yes : p y ≡ true = ap p (sym same) ∙ test in cc)
into_filter_by p y ys x false e (inr k) test later = rw e (later k)

pub into_filter : (p : Object → Bool) (ys : List Object) (x : Object) → IsIn x ys → p x ≡ true → IsIn x (filter p ys)
into_filter p [] x k test = absurd k
into_filter p (y ∷ ys) x k test = into_filter_by p y ys x (p y) refl k test (λ h. into_filter p ys x h test)

-- a part that has it
on_filter : (objects : List Object) (o : ℕ) (p : Object → Bool) → ((x : Object) → IsIn x objects → x.id ≡ o → p x ≡ true) → KeepsOn objects (filter p objects) o
on_filter objects o p passes x k e = record { item = x; within = into_filter p objects x k (passes x k e); id = refl; phase = refl }

pub with_room_by : (b : Bool) (z x : Object) (objects : List Object) → IsIn x objects → IsIn x (if b then objects ++ z ∷ [] else objects)
with_room_by true z x objects k = IsIn-append-left x objects (z ∷ []) k
with_room_by false z x objects k = k

on_room : (objects : List Object) (o : ℕ) (z : Object) → KeepsOn objects (with_room_for z objects) o
on_room objects o z x k e = record { item = x; within = with_room_by (nat_lt (length objects) MOST_OBJECTS) z x objects k; id = refl; phase = refl }

on_as : (m' n : State) (objects : List Object) (o : ℕ) → m' ≡ n → KeepsOn objects n.objects o → KeepsOn objects m'.objects o
on_as m' n objects o e h = let P : State → Type 0 = λ s. KeepsOn objects s.objects o in subst P (sym e) h

stands_as : (w : Word) (m' n : State) (o : ℕ) → m' ≡ n → IsInPhaseFor w n.objects o → IsInPhaseFor w m'.objects o
stands_as w m' n o e h = let P : State → Type 0 = λ s. IsInPhaseFor w s.objects o in subst P (sym e) h

-- Turns.

module _ (m : State) (r : Reached m) (numbered : Numbered m) (own : OwnStands m) (c : ℕ) (call : InFlight) (is : call_of m c ≡ Some call) where
  keeps_act : (a : Answer) (what : request.Act) (o : ℕ) → KeepsOn m.objects (act m c call a what).objects o
  keeps_act a (Modify to attrs) o = on_same m.objects o
  keeps_act a Query o = on_same m.objects o
  keeps_act a (Bind offset long access) o = on_bound m.objects o (acted_on call) (ToBound (Some (binding_of call offset long access))) _ refl
  keeps_act a (Unbind offset long access) o = on_bound m.objects o (acted_on call) (ToBound None) _ refl
  keeps_act a Async o = on_same m.objects o

  -- what the call doesn't hold goes on
  keeps_turn : (a : Answer) (m' : State) → Turn m c call a m' → (o : ℕ) → (call.locked ≡ Some o → ⊥) → KeepsOn m.objects m'.objects o
  keeps_turn a m' (Refuses t) o free = on_as m' _ m.objects o t.gives (on_same m.objects o)
  keeps_turn a m' (Reserves t) o free = on_as m' _ m.objects o t.gives (on_same m.objects o)
  keeps_turn a m' (Looks t) o free = on_as m' _ m.objects o t.gives (on_same m.objects o)
  keeps_turn a m' (Makes t) o free = on_as m' _ m.objects o t.gives (on_room m.objects o (object_made m call t.kind t.index))
  keeps_turn a m' (Commits t) o free = on_as m' _ m.objects o t.gives (on_other m.objects o (own_object call) ToLive (λ e. free (owns_at_commit m r c call is t.plan ∙ ap (λ (v : ℕ). Some v) e)))
  keeps_turn a m' (Does t) o free = on_as m' _ m.objects o t.gives (keeps_act a t.what o)
  keeps_turn a m' (Locks t) o free = on_as m' _ m.objects o t.gives (on_same m.objects o)
  keeps_turn a m' (Checks t) o free = on_as m' _ m.objects o t.gives (on_other m.objects o (own_object call) ToDoomed (λ e. free (owns_at_check m r c call is t.plan ∙ ap (λ (v : ℕ). Some v) e)))
  keeps_turn a m' (Finishes t) o free =
      let i = own_object call in
      let P : List Object → Type 0 = λ v. KeepsOn m.objects v o in
      on_as m' _ m.objects o t.gives
      (subst P (sym (finish_objects m c i))
      (on_filter m.objects o (not_with_id i) (λ x k e. ap not (ne_eqb x.id i (λ e'. free (owns_at_finish m r c call is t.plan ∙ ap (λ (v : ℕ). Some v) (sym e' ∙ e)))))))
  keeps_turn a m' (Aborts t) o free = on_as m' _ m.objects o t.gives (on_same m.objects o)
  keeps_turn a m' (Frees t) o free = on_as m' _ m.objects o t.gives (on_same m.objects o)
  keeps_turn a m' (Leaves t) o free = on_as m' _ m.objects o t.gives (on_same m.objects o)

  -- another call's object isn't this one's
  held_apart : (b : ℕ) (k : InFlight) (o : ℕ) → c ≢ b → call_of m b ≡ Some k → k.locked ≡ Some o → call.locked ≡ Some o → ⊥
  held_apart b k o ne is' locked mine =
      let none = r.alone c b call k o is is' ne mine in
      let some : holds o (Some k) ≡ true = or_left _ (looks_at o k) (locks_it o k.locked locked) in
      cc

  -- The call's own object.

  own_now : (o : ℕ) → call.locked ≡ Some o → IsInPhaseFor (next_word call) m.objects o
  own_now o locked = own c o call is locked

  -- where the call holds nothing
  unlocked : (o : ℕ) → count_of call.locked ≡ 0 → call.locked ≡ Some o → ⊥
  unlocked o none locked = let one : count_of call.locked ≡ 1 = ap count_of locked in cc

  rests_now : (v : Word) (o : ℕ) → next_word call ≡ v → ((p : Phase) → is_held_at v p ≡ rests p) → (w : Word) → ((p : Phase) → is_held_at w p ≡ rests p) → call.locked ≡ Some o → IsInPhaseFor w m.objects o
  rests_now v o word before w behind locked =
      let s = own_now o locked in
      record { item = s.item; within = s.within; id = s.id; held = behind s.item.phase ∙ sym (before s.item.phase) ∙ ap (λ u. is_held_at u s.item.phase) (sym word) ∙ s.held }

  -- after a refusal
  own_refused : (a : Answer) (m' : State) (e : Errno) (v : Word) (o : ℕ) → next_word call ≡ v → may_refuse v ≡ true → call.locked ≡ Some o → IsInPhaseFor (next_word (with_refusal e call)) m.objects o
  own_refused a m' e v o word may locked =
      rests_now v o word (λ p. refusing_rests v p may) (next_word (with_refusal e call)) (λ p. closing_rests (next_word (with_refusal e call)) p (closing_unwinds call)) locked

  -- while it closes
  own_closing : (k : InFlight) (o : ℕ) → IsClosing call → IsClosing k → call.locked ≡ Some o → IsInPhaseFor (next_word k) m.objects o
  own_closing k o ends ends' locked =
      let P : Word → Type 0 = λ v. (p : Phase) → is_held_at v p ≡ rests p in
      rests_now (closing call) o (next_word-closing call ends) (λ p. closing_rests (closing call) p (closing_unwinds call)) (next_word k)
      (subst P (sym (next_word-closing k ends')) (λ p. closing_rests (closing k) p (closing_unwinds k))) locked

  planned_word : (w : Word) → InPlan call w → next_word call ≡ w
  planned_word w plan = next_word-planned call w plan.fine plan.planned

  own_made : (a : Answer) (m' : State) (t : Made m c call m') (o : ℕ) → m.made ≡ o → IsInPhaseFor (next_word (with_made m.made (made_outcome (object_made m call t.kind t.index)) call)) m'.objects o
  own_made a m' t o same =
      let x = object_made m call t.kind t.index in
      let k = with_made m.made (made_outcome x) call in
      let s = stands_in_plan call Make t.plan in
      let next = next_place-in_plan call Make t.plan in
      let P : Role → Type 0 = λ v. slice_get (plan_of v (looks_in call)) k.place ≡ Some Commit in
      let word : next_word k ≡ Commit = next_word-planned k Commit t.plan.fine (subst P (sym s.creates) (commits_next s.kind (looks_in call) k.place (omega (arith, next, s.at)))) in
      let room = room_is x m.objects (room_at m c call r numbered is t.plan) in
      let Q : List Object → Type 0 = λ v. IsIn x v in
      stands_as (next_word k) m' _ o t.gives
      (record { item = x; within = subst Q (sym room) (IsIn-append-right x m.objects (x ∷ []) (inl refl)); id = same; held = ap (λ v. is_held_at v x.phase) word })

  own_checked : (a : Answer) (m' : State) (t : Checked m c call m') (o : ℕ) → call.locked ≡ Some o → IsInPhaseFor (next_word (moved_on call)) m'.objects o
  own_checked a m' t o locked =
      let i = own_object call in
      let j = moved_on call in
      let s = stands_in_plan call Check t.plan in
      let next = next_place-in_plan call Check t.plan in
      let P : Role → Type 0 = λ v. slice_get (plan_of v (looks_in call)) j.place ≡ Some Finish in
      let word : next_word j ≡ Finish = next_word-planned j Finish t.plan.fine (subst P (sym s.destroys) (finishes_next s.asked (looks_in call) j.place (omega (arith, next, s.at)))) in
      let now = own_now o locked in
      let x = now.item in
      let mine : x.id ≡ i = now.id ∙ same_Some o i (sym locked ∙ owns_at_check m r c call is t.plan) in
      let here : on_object i ToDoomed x ≡ with_change ToDoomed x = ap (λ b. if b then with_change ToDoomed x else x) (eq-eqb x.id i mine) in
      let rested : rests x.phase ≡ true = ap (λ v. is_held_at v x.phase) (sym (planned_word Check t.plan)) ∙ now.held in
      stands_as (next_word j) m' _ o t.gives
      (record {
        item = on_object i ToDoomed x;
        within = IsIn-into_map (on_object i ToDoomed) x m.objects now.within;
        id = ap (λ (v : Object). v.id) here ∙ now.id;
        held = ap (λ v. is_held_at v (on_object i ToDoomed x).phase) word ∙ ap (λ (v : Object). is_held_at Finish v.phase) here ∙ checked_held x.phase rested;
      })

  -- a published object that no other call holds isn't doomed
  not_doomed : (x : Object) → IsPublished m call.file x → next_word call ≡ Lock → has_others m c x.id ≡ false → is_doomed x.phase ≡ true → ⊥
  not_doomed x p word free doomed =
      ⊎_elim
      (λ held.
      ⊎_elim
      (λ same. (
      let one : held.call ≡ call = same_Some held.call call (sym held.is ∙ ap (call_of m) (sym same.1) ∙ is) in
      let two : Finish ≡ Lock = sym held.word ∙ ap next_word one ∙ word in
      cc))
      (λ apart. (
      let none = no_others m c x.id held.actor held.call free held.is apart.1 in
      let some : holds x.id (Some held.call) ≡ true = or_left _ (looks_at x.id held.call) (locks_it x.id held.call.locked held.own) in
      cc))
      (eqb_tells c held.actor))
      (λ swept. not_swept m r c call is x.file (sym p.same) swept)
      (r.ending x p.within doomed)

  no_if : (b : Bool) → (b ≡ true → ⊥) → b ≡ false
  no_if true h = absurd (h refl)
  no_if false h = refl

  checks_next : (asked : Ask) (n p : ℕ) → p ≡ 1 → slice_get (plan_of (Destroys asked) n) p ≡ Some Check
  checks_next asked n p e = ap (slice_get (plan_of (Destroys asked) n)) e

  own_locked : (a : Answer) (m' : State) (t : Locked m c call m') (o : ℕ) → t.item.id ≡ o → IsInPhaseFor (next_word (with_lock t.item.id call)) m'.objects o
  own_locked a m' t o same =
      let x = t.item in
      let j = with_lock x.id call in
      let s = stands_in_plan call Lock t.plan in
      let next = next_place-in_plan call Lock t.plan in
      let P : Role → Type 0 = λ v. slice_get (plan_of v (looks_in call)) j.place ≡ Some Check in
      let word : next_word j ≡ Check = next_word-planned j Check t.plan.fine (subst P (sym s.destroys) (checks_next s.asked (looks_in call) j.place (omega (arith, next, s.at)))) in
      let p = published_is m call.file t.asked.handle x t.published in
      let free : has_others m c x.id ≡ false = lock_parts (is_kind x.kind t.asked.kind) (has_others m c x.id) t.fine in
      let doomed : is_doomed x.phase ≡ false = no_if (is_doomed x.phase) (not_doomed x p (planned_word Lock t.plan) free) in
      stands_as (next_word j) m' _ o t.gives
      (record { item = x; within = p.within; id = same; held = ap (λ v. is_held_at v x.phase) word ∙ rests_by x.phase p.seen doomed })

  stands_own : (k k' : InFlight) (m' : State) (o : ℕ) → Some k' ≡ Some k → k.locked ≡ Some o → (k'.locked ≡ Some o → IsInPhaseFor (next_word k') m'.objects o) → IsInPhaseFor (next_word k) m'.objects o
  stands_own k k' m' o e locked h =
      let same = same_Some k' k e in
      let P : Word → Type 0 = λ v. IsInPhaseFor v m'.objects o in
      subst P (ap next_word same) (h (ap (λ (v : InFlight). v.locked) same ∙ locked))

  own_stands : (a : Answer) (m' : State) (t : Turn m c call a m') (k : InFlight) (o : ℕ) → (calls_turn m c call a m' t).change (Some call) ≡ Some k → k.locked ≡ Some o → IsInPhaseFor (next_word k) m'.objects o
  own_stands a m' (Refuses t) k o e locked =
      stands_own k (with_refusal t.errno call) m' o e locked
      (λ l. stands_as (next_word (with_refusal t.errno call)) m' _ o t.gives (own_refused a m' t.errno t.word o (planned_word t.word t.plan) t.may l))
  own_stands a m' (Reserves t) k o e locked =
      let s = stands_in_plan call Reserve t.plan in
      stands_own k (with_number (Some t.number) call) m' o e locked
      (λ l. absurd (unlocked o ((create_has call s.kind (r.phased c call is) t.plan.fine s.creates).begun s.at).locks_are l))
  own_stands a m' (Looks t) k o e locked =
      stands_own k (with_look _ call) m' o e locked
      (λ l. absurd
      (⊎_elim
      (λ s. unlocked o ((create_has call s.kind (r.phased c call is) t.plan.fine s.creates).looking s.from (omega (arith, s.to))).locks_are l)
      (λ s. unlocked o ((act_has call s.act (r.phased c call is) t.plan.fine s.acts).looking (omega (arith, s.to))).locks_are l)
      (stands_in_plan call Look t.plan)))
  own_stands a m' (Makes t) k o e locked =
      let x = object_made m call t.kind t.index in
      stands_own k (with_made x.id (made_outcome x) call) m' o e locked (λ l. own_made a m' t o (same_Some x.id o l))
  own_stands a m' (Commits t) k o e locked = stands_own k (without_lock call) m' o e locked (λ l. absurd (none-some o l))
  own_stands a m' (Does t) k o e locked =
      let s = stands_in_plan call Act t.plan in
      stands_own k (with_outcome a call) m' o e locked
      (λ l. absurd (unlocked o ((act_has call s.act (r.phased c call is) t.plan.fine s.acts).looking (omega (arith, s.at))).locks_are l))
  own_stands a m' (Locks t) k o e locked = stands_own k (with_lock t.item.id call) m' o e locked (λ l. own_locked a m' t o (same_Some t.item.id o l))
  own_stands a m' (Checks t) k o e locked = stands_own k (moved_on call) m' o e locked (λ l. own_checked a m' t o l)
  own_stands a m' (Finishes t) k o e locked = stands_own k (without_lock call) m' o e locked (λ l. absurd (none-some o l))
  own_stands a m' (Aborts t) k o e locked =
      stands_own k (without_number call) m' o e locked
      (λ l. stands_as (next_word (without_number call)) m' _ o t.gives (own_closing (without_number call) o t.ends t.ends l))
  own_stands a m' (Frees t) k o e locked =
      stands_own k (without_look call) m' o e locked
      (λ l. stands_as (next_word (without_look call)) m' _ o t.gives (own_closing (without_look call) o t.ends t.ends l))
  own_stands a m' (Leaves t) k o e locked = absurd (none-some k e)

  owning_by : (a : Answer) (m' : State) (t : Turn m c call a m') (b o : ℕ) (k : InFlight) → CallBehind m c b ((calls_turn m c call a m' t).change (Some call)) k → k.locked ≡ Some o → IsInPhaseFor (next_word k) m'.objects o
  owning_by a m' t b o k (CallBehind.IsOwn same e) locked = own_stands a m' t k o e locked
  owning_by a m' t b o k (CallBehind.IsOther ne e) locked = stands_on (next_word k) m.objects m'.objects o (keeps_turn a m' t o (held_apart b k o ne e locked)) (own b o k e locked)

  owning_turn : (a : Answer) (m' : State) → Turn m c call a m' → OwnStands m'
  owning_turn a m' t b o k is' locked =
      let kt = calls_turn m c call a m' t in
      owning_by a m' t b o k (call_behind m m' c call kt.change is kt.calls b k is') locked

-- The other entries.

owning_same : (m m' : State) → m'.calls ≡ m.calls → ((b o : ℕ) (k : InFlight) → call_of m b ≡ Some k → k.locked ≡ Some o → KeepsOn m.objects m'.objects o) → OwnStands m → OwnStands m'
owning_same m m' calls keeps own b o k is locked =
    let before = sym (call_of-alike m m' calls b) ∙ is in
    stands_on (next_word k) m.objects m'.objects o (keeps b o k before locked) (own b o k before locked)

owning_unless : (m m' : State) (e : Option Errno) → OwnStands m → (e ≡ None → OwnStands m') → OwnStands (unless_answered m e m')
owning_unless m m' None own own' = own' refl
owning_unless m m' (Some e) own own' = own

owning_entered : (m : State) (c f : ℕ) (request : Request) → Reached m → call_of m c ≡ None → is_callable (phase_of m f) ≡ true → OwnStands m → OwnStands (record m { calls = at_place m.calls c (put_call (entered f request)) })
owning_entered m c f request r idle callable own b o k is locked =
    ⊎_elim
    (λ new. absurd (none-some o (ap (λ (v : InFlight). v.locked) new.1 ∙ locked)))
    (λ old. own b o k old.1 locked)
    (new_or_old m c f request r idle callable b k is)

-- an object of a file that is being swept is held by no call
swept_apart : (m : State) (r : Reached m) (i : ℕ) (s : IsSweptObject m i) (b o : ℕ) (k : InFlight) → call_of m b ≡ Some k → k.locked ≡ Some o → i ≢ o
swept_apart m r i s b o k is locked e =
    let file = (r.holds_well b k is).placed o locked s.item s.within (s.id ∙ e) in
    absurd (quiet_none m b s.item.file k (and_parts (is_tearing (phase_of m s.item.file)) (is_quiet m s.item.file) s.swept).1 is (sym file))

owning_gone : (m : State) (i : ℕ) (slot : Option Object) → Reached m → object_with m i ≡ slot → may_go_object m slot ≡ true → OwnStands m → OwnStands (gone_from m i slot)
owning_gone m i None r e may own = own
owning_gone m i (Some x) r e may own =
    owning_same m (gone_from m i (Some x)) refl (λ b o k is locked. on_other m.objects o i ToHusk (swept_apart m r i (gone_by m i x e may) b o k is locked)) own

-- a file that is closed has no calls
closed_apart : (m : State) (r : Reached m) (f : ℕ) → is_quiet m f ≡ true → (b o : ℕ) (k : InFlight) → call_of m b ≡ Some k → k.locked ≡ Some o → (x : Object) → IsIn x m.objects → x.id ≡ o → not_in_file f x ≡ true
closed_apart m r f quiet b o k is locked x h e =
    let file = (r.holds_well b k is).placed o locked x h e in
    ap not (ne_eqb x.file f (λ same. quiet_none m b f k quiet is (sym file ∙ same)))

pub owning_after : (m : State) (e : Entry) → Reached m → Numbered m → Allowed m e → OwnStands m → OwnStands (after m e)
owning_after m (Open c f d a) r numbered allowed own = owning_unless m _ (refusal_in a) own (λ e. own)
owning_after m (Enter c f request a) r numbered allowed own =
    owning_unless m _ (refusal_in a) own (λ e. owning_entered m c f request r allowed.2 (was_callable (is_callable (phase_of m f)) _ a allowed.3 e) own)
owning_after m (Step c w o found a) r numbered allowed own =
    let t = IsTurn-allowed m c w o found a allowed in
    owning_turn m r numbered own c t.call t.is a (after m (Step c w o found a)) t.turn
owning_after m (Unplug d) r numbered allowed own = own
owning_after m (Tear f by) r numbered allowed own = own
owning_after m (Kill i) r numbered allowed own =
    owning_same m (after m (Kill i)) refl (λ b o k is locked. on_other m.objects o i ToDoomed (swept_apart m r i (killed_swept m i allowed) b o k is locked)) own
owning_after m (Gone i kept) r numbered allowed own = owning_gone m i (object_with m i) r refl allowed own
owning_after m (Dissociated f) r numbered allowed own = own
owning_after m (Closed f) r numbered allowed own =
    let parts = and_parts (is_closing (phase_of m f)) (is_quiet m f && not (has_standing m f)) allowed.1 in
    let quiet = (and_parts (is_quiet m f) (not (has_standing m f)) parts.1).0 in
    owning_same m (after m (Closed f)) refl (λ b o k is locked. on_filter m.objects o (not_in_file f) (closed_apart m r f quiet b o k is locked)) own

owning_from : (m : State) (h : List Entry) → Reached m → Numbered m → IsLegalFrom m h → OwnStands m → OwnStands (state_from m h)
owning_from m [] r numbered legal own = own
owning_from m (e ∷ h) r numbered legal own =
    owning_from (after m e) h (Reached-after m e legal.0 r) (numbered_after m e r legal.0 numbered) legal.1 (owning_after m e r numbered legal.0 own)

pub owning_start : OwnStands start
unfolding start
owning_start b o k is locked = absurd (start_calls b ACTOR_PLACES k is)

-- what a call holds exclusively stands there, for its next word
pub legal_own_stands : LegalOwnStands
legal_own_stands h legal = owning_from start h Reached-start numbered_start legal owning_start
