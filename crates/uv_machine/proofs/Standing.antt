-- What calls look at and what objects use stands there, live.
use Rattle.std.proofs.Common.{◌≡◌, ◌≢◌, ℕ, Bool, true, false, List, [], ◌∷◌, Option, Some, None, length, map, refl, ap, sym, ◌∙◌, subst, arith, ⊎_elim}
use Rattle.std.specs.Prelude.{not, ◌||◌, ◌&&◌, ◌==◌, nat_lt, filter}
use Rattle.std.specs.List.{list_any}
use Rattle.std.proofs.lemmas.Option.{none-some, same_Some}
use Rattle.std.proofs.lemmas.Bool.{and_parts, or_right, eqb-true, eq-eqb, ne_eqb}
use Rattle.uv_num.specs.declared.errno.Errno.{Errno}
use Rattle.uv_num.specs.declared.limits.TheConstants.{ACTOR_PLACES, MOST_OBJECTS}
use Rattle.uv_num.specs.declared.request.Act as request
use Rattle.uv_num.specs.declared.request.Act.TheVariants.{Modify, Query, Bind, Unbind, Async}
use Rattle.uv_num.specs.declared.request.Request.{Request}
use Rattle.uv_num.specs.declared.request.Role.TheVariants.{Acts}
use Rattle.uv_num.specs.Ids as ids
use Rattle.uv_num.specs.Ids.{ids_of}
use Rattle.uv_num.specs.Place.{at_place}
use Rattle.uv_num.specs.Request.{role_of}
use Rattle.uv_machine.specs.declared.entry.Entry.{Entry}
use Rattle.uv_machine.specs.declared.entry.Entry.TheVariants.{Open, Enter, Step, Unplug, Tear, Kill, Gone, Dissociated, Closed}
use Rattle.uv_machine.specs.declared.entry.Word.TheVariants.{Look, Act, Check, Finish}
use Rattle.uv_machine.specs.declared.entry.Answer.{Answer}
use Rattle.uv_machine.specs.declared.object.Phase.{Phase}
use Rattle.uv_machine.specs.declared.object.Phase.TheVariants as phase
use Rattle.uv_machine.specs.declared.object.Object.{Object}
use Rattle.uv_machine.specs.declared.object.Change.{Change}
use Rattle.uv_machine.specs.declared.object.Change.TheVariants.{ToLive, ToDoomed, ToHusk, ToBound}
use Rattle.uv_machine.specs.declared.call.InFlight.{InFlight}
use Rattle.uv_machine.specs.declared.state.State.{State}
use Rattle.uv_machine.specs.Objects.{has_id, is_live, is_doomed, is_husk, uses_object, on_object}
use Rattle.uv_machine.specs.Plans.{next_word, own_object, acted_on, looked_at, holds, looks_at, is_the_number, look_ask, entered, with_refusal, with_number, with_look, with_made, with_outcome, with_lock, without_lock, without_number, without_look, moved_on}
use Rattle.uv_machine.specs.States.{call_of, object_with, has_users, is_quiet, is_tearing, is_callable, is_closing, has_standing, phase_of, start}
use Rattle.uv_machine.specs.Steps.{look_told}
use Rattle.uv_machine.specs.Effects.{refusal_in, with_room_for, made_outcome, act, binding_of, not_with_id, not_in_file, gone_from, put_call, unless_answered}
use Rattle.uv_machine.specs.Outside.{may_sweep, may_go_object}
use Rattle.uv_machine.specs.Histories.{Allowed, after, state_from, IsLegalFrom}
use Rattle.uv_machine.specs.Reached.{IsIn, is_held_at, OwnStands, StandsLive, LooksStand, UsesStand, Reached}
use Rattle.uv_machine.specs.Laws.{LegalLooksStand, LegalUsesStand}
use Rattle.uv_machine.proofs.Members.{IsIn-map, IsIn-into_map, Passes-find, Passes-filter, fails_any}
use Rattle.uv_machine.proofs.Planned.{InPlan, stands_in_plan, next_word-planned}
use Rattle.uv_machine.proofs.Turns.{Turn, object_made, IsTurn-allowed}
use Rattle.uv_machine.proofs.Turns.Turn.{Refuses, Reserves, Looks, Makes, Commits, Does, Locks, Checks, Finishes, Aborts, Frees, Leaves}
use Rattle.uv_machine.proofs.OwnCall.{calls_turn}
use Rattle.uv_machine.proofs.Calling.{CallBehind, call_behind, quiet_none}
use Rattle.uv_machine.proofs.Phased.{destroy_has}
use Rattle.uv_machine.proofs.Changing.{KeepsLive, Gains, on_object-id, on_object-file, on_object-live, on_object-uses, any_ids_and, any_ids_behind}
use Rattle.uv_machine.proofs.Graph.{in_room}
use Rattle.uv_machine.proofs.Holding.{finish_objects, bind_at, acts_on_first, acts_on_second, or_second}
use Rattle.uv_machine.proofs.Keeping.{same_object, looks_at_live, found_at, owns_at_check, owns_at_finish}
use Rattle.uv_machine.proofs.Reaching.{Reached-start, Reached-after, start_calls, call_of-alike, new_or_old, was_callable, IsSweptObject, killed_swept}
use Rattle.uv_machine.proofs.Numbers.{Numbered, numbered_start, numbered_after}
use Rattle.uv_machine.proofs.Releases.{killed_by}
use Rattle.uv_machine.proofs.Owning.{into_filter, with_room_by, owning_after, owning_start}

-- Live objects that go on so.

-- each live object with this id goes on to be live
abbrev pub LivesOn : List Object → List Object → ℕ → Type 0
LivesOn objects objects' o = (f : ℕ) (x : Object) → IsIn x objects → x.id ≡ o → x.file ≡ f → is_live x.phase ≡ true → StandsLive objects' f o

lives_on : (objects objects' : List Object) (f o : ℕ) → LivesOn objects objects' o → StandsLive objects f o → StandsLive objects' f o
lives_on objects objects' f o on s = on f s.item s.within s.id s.same s.live

lives_same : (objects : List Object) (o : ℕ) → LivesOn objects objects o
lives_same objects o f x k e same live = record { item = x; within = k; id = e; same = same; live = live }

lives_map : (objects : List Object) (o i : ℕ) (change : Change) → (i ≡ o → KeepsLive change) → LivesOn objects (map (on_object i change) objects) o
lives_map objects o i change keeps f x k e same live = record {
  item = on_object i change x;
  within = IsIn-into_map (on_object i change) x objects k;
  id = on_object-id i change x ∙ e;
  same = on_object-file i change x ∙ same;
  live = on_object-live i change x live (λ e'. keeps (sym e' ∙ e));
}

lives_filter : (objects : List Object) (o : ℕ) (p : Object → Bool) → ((x : Object) → IsIn x objects → x.id ≡ o → is_live x.phase ≡ true → p x ≡ true) → LivesOn objects (filter p objects) o
lives_filter objects o p passes f x k e same live = record { item = x; within = into_filter p objects x k (passes x k e live); id = e; same = same; live = live }

lives_room : (objects : List Object) (o : ℕ) (z : Object) → LivesOn objects (with_room_for z objects) o
lives_room objects o z f x k e same live = record { item = x; within = with_room_by (nat_lt (length objects) MOST_OBJECTS) z x objects k; id = e; same = same; live = live }

lives_as : (m' n : State) (objects : List Object) (o : ℕ) → m' ≡ n → LivesOn objects n.objects o → LivesOn objects m'.objects o
lives_as m' n objects o e h = let P : State → Type 0 = λ s. LivesOn objects s.objects o in subst P (sym e) h

live_apart : (p : Phase) → is_live p ≡ true → (is_doomed p || is_husk p) ≡ true → ⊥
live_apart phase.Made e e' = cc
live_apart phase.Live e e' = cc
live_apart phase.Doomed e e' = cc
live_apart phase.Husk e e' = cc

-- Turns.

module _ (m : State) (r : Reached m) (own : OwnStands m) (looks : LooksStand m) (uses : UsesStand m) (c : ℕ) (call : InFlight) (is : call_of m c ≡ Some call) where
  -- what a call is about to finish isn't live
  finish_apart : (o : ℕ) → InPlan call Finish → (x : Object) → IsIn x m.objects → x.id ≡ o → is_live x.phase ≡ true → own_object call ≡ o → ⊥
  finish_apart o plan x k e live same =
      let s = own c (own_object call) call is (owns_at_finish m r c call is plan) in
      let one : s.item ≡ x = same_object m r s.item x s.within k (s.id ∙ same ∙ sym e) in
      let word : next_word call ≡ Finish = next_word-planned call Finish plan.fine plan.planned in
      let held : is_held_at Finish x.phase ≡ true = ap (λ (v : Object). is_held_at Finish v.phase) (sym one) ∙ ap (λ w. is_held_at w s.item.phase) (sym word) ∙ s.held in
      live_apart x.phase live held

  lives_act : (a : Answer) (what : request.Act) (o : ℕ) → LivesOn m.objects (act m c call a what).objects o
  lives_act a (Modify to attrs) o = lives_same m.objects o
  lives_act a Query o = lives_same m.objects o
  lives_act a (Bind offset long access) o = lives_map m.objects o (acted_on call) (ToBound (Some (binding_of call offset long access))) (λ _. tt)
  lives_act a (Unbind offset long access) o = lives_map m.objects o (acted_on call) (ToBound None) (λ _. tt)
  lives_act a Async o = lives_same m.objects o

  lives_turn : (a : Answer) (m' : State) (t : Turn m c call a m') (o : ℕ) → (InPlan call Check → has_users m (own_object call) ≡ false → own_object call ≡ o → ⊥) → LivesOn m.objects m'.objects o
  lives_turn a m' (Refuses t) o apart = lives_as m' _ m.objects o t.gives (lives_same m.objects o)
  lives_turn a m' (Reserves t) o apart = lives_as m' _ m.objects o t.gives (lives_same m.objects o)
  lives_turn a m' (Looks t) o apart = lives_as m' _ m.objects o t.gives (lives_same m.objects o)
  lives_turn a m' (Makes t) o apart = lives_as m' _ m.objects o t.gives (lives_room m.objects o (object_made m call t.kind t.index))
  lives_turn a m' (Commits t) o apart = lives_as m' _ m.objects o t.gives (lives_map m.objects o (own_object call) ToLive (λ _. tt))
  lives_turn a m' (Does t) o apart = lives_as m' _ m.objects o t.gives (lives_act a t.what o)
  lives_turn a m' (Locks t) o apart = lives_as m' _ m.objects o t.gives (lives_same m.objects o)
  lives_turn a m' (Checks t) o apart = lives_as m' _ m.objects o t.gives (lives_map m.objects o (own_object call) ToDoomed (λ e. apart t.plan t.unused e))
  lives_turn a m' (Finishes t) o apart =
      let i = own_object call in
      let P : List Object → Type 0 = λ v. LivesOn m.objects v o in
      lives_as m' _ m.objects o t.gives
      (subst P (sym (finish_objects m c i))
      (lives_filter m.objects o (not_with_id i) (λ x k e live. ap not (ne_eqb x.id i (λ same. finish_apart o t.plan x k e live (sym same ∙ e))))))
  lives_turn a m' (Aborts t) o apart = lives_as m' _ m.objects o t.gives (lives_same m.objects o)
  lives_turn a m' (Frees t) o apart = lives_as m' _ m.objects o t.gives (lives_same m.objects o)
  lives_turn a m' (Leaves t) o apart = lives_as m' _ m.objects o t.gives (lives_same m.objects o)

  -- What calls look at.

  none_looked : (xs : List ℕ) (o : ℕ) → length xs ≡ 0 → list_any (ids.is_number o) xs ≡ true → ⊥
  none_looked [] o none h = cc
  none_looked (x ∷ xs) o none h = absurd (omega (arith, none))

  -- a destroy looks at nothing
  check_apart : (o : ℕ) → looks_at o call ≡ true → InPlan call Check → has_users m (own_object call) ≡ false → own_object call ≡ o → ⊥
  check_apart o h plan unused e =
      let s = stands_in_plan call Check plan in
      let has = (destroy_has call s.asked (r.phased c call is) plan.fine s.destroys).locked (omega (arith, s.at)) (omega (arith, s.at)) in
      none_looked (ids_of call.looked) o has.looks_are h

  -- and what another call looks at this one doesn't hold exclusively
  other_apart : (b : ℕ) (k : InFlight) (o : ℕ) → c ≢ b → call_of m b ≡ Some k → looks_at o k ≡ true → InPlan call Check → has_users m (own_object call) ≡ false → own_object call ≡ o → ⊥
  other_apart b k o ne is' h plan unused e =
      let mine : call.locked ≡ Some o = owns_at_check m r c call is plan ∙ ap (λ (v : ℕ). Some v) e in
      let none = r.alone c b call k o is is' ne mine in
      let some : holds o (Some k) ≡ true = or_right (is_the_number o k.locked) (looks_at o k) h in
      cc

  old_look : (a : Answer) (m' : State) (t : Turn m c call a m') (o : ℕ) → looks_at o call ≡ true → StandsLive m'.objects call.file o
  old_look a m' t o h = lives_on m.objects m'.objects call.file o (lives_turn a m' t o (check_apart o h)) (looks c o call is h)

  new_look : (a : Answer) (m' : State) (t : Turn m c call a m') (u o : ℕ) → (look_told m call.file (look_ask call)).object ≡ u → InPlan call Look → (look_told m call.file (look_ask call)).refusal ≡ None → m'.objects ≡ m.objects → looks_at o (with_look u call) ≡ true → StandsLive m'.objects call.file o
  new_look a m' t u o told plan fine same h =
      let f = found_at m r c call is plan fine in
      let P : List Object → Type 0 = λ v. StandsLive v call.file o in
      ⊎_elim
      (λ old. old_look a m' t o old)
      (λ new. subst P (sym same) (record { item = f.item; within = f.is.within; id = sym f.object ∙ told ∙ new; same = f.is.same; live = looks_at_live m r c call is f }))
      (any_ids_and o call.looked u h)

  look_own : (k k' : InFlight) (m' : State) (o : ℕ) → Some k' ≡ Some k → looks_at o k ≡ true → k'.file ≡ call.file → (looks_at o k' ≡ true → StandsLive m'.objects call.file o) → StandsLive m'.objects k.file o
  look_own k k' m' o e h file stands =
      let same = same_Some k' k e in
      let P : ℕ → Type 0 = λ f. StandsLive m'.objects f o in
      subst P (sym file ∙ ap (λ (v : InFlight). v.file) same) (stands (ap (looks_at o) same ∙ h))

  own_looks : (a : Answer) (m' : State) (t : Turn m c call a m') (k : InFlight) (o : ℕ) → (calls_turn m c call a m' t).change (Some call) ≡ Some k → looks_at o k ≡ true → StandsLive m'.objects k.file o
  own_looks a m' (Refuses t) k o e h = look_own k (with_refusal t.errno call) m' o e h refl (old_look a m' (Refuses t) o)
  own_looks a m' (Reserves t) k o e h = look_own k (with_number (Some t.number) call) m' o e h refl (old_look a m' (Reserves t) o)
  own_looks a m' (Looks t) k o e h =
      look_own k (with_look _ call) m' o e h refl (new_look a m' (Looks t) _ o refl t.plan t.fine (ap (λ (s : State). s.objects) t.gives))
  own_looks a m' (Makes t) k o e h =
      let x = object_made m call t.kind t.index in
      look_own k (with_made x.id (made_outcome x) call) m' o e h refl (old_look a m' (Makes t) o)
  own_looks a m' (Commits t) k o e h = look_own k (without_lock call) m' o e h refl (old_look a m' (Commits t) o)
  own_looks a m' (Does t) k o e h = look_own k (with_outcome a call) m' o e h refl (old_look a m' (Does t) o)
  own_looks a m' (Locks t) k o e h = look_own k (with_lock t.item.id call) m' o e h refl (old_look a m' (Locks t) o)
  own_looks a m' (Checks t) k o e h = look_own k (moved_on call) m' o e h refl (old_look a m' (Checks t) o)
  own_looks a m' (Finishes t) k o e h = look_own k (without_lock call) m' o e h refl (old_look a m' (Finishes t) o)
  own_looks a m' (Aborts t) k o e h = look_own k (without_number call) m' o e h refl (old_look a m' (Aborts t) o)
  own_looks a m' (Frees t) k o e h = look_own k (without_look call) m' o e h refl (λ l. old_look a m' (Frees t) o (any_ids_behind o call.looked l))
  own_looks a m' (Leaves t) k o e h = absurd (none-some k e)

  looks_by : (a : Answer) (m' : State) (t : Turn m c call a m') (b o : ℕ) (k : InFlight) → CallBehind m c b ((calls_turn m c call a m' t).change (Some call)) k → looks_at o k ≡ true → StandsLive m'.objects k.file o
  looks_by a m' t b o k (CallBehind.IsOwn same e) h = own_looks a m' t k o e h
  looks_by a m' t b o k (CallBehind.IsOther ne e) h = lives_on m.objects m'.objects k.file o (lives_turn a m' t o (other_apart b k o ne e h)) (looks b o k e h)

  looks_turn : (a : Answer) (m' : State) → Turn m c call a m' → LooksStand m'
  looks_turn a m' t b o k is' h =
      let kt = calls_turn m c call a m' t in
      looks_by a m' t b o k (call_behind m m' c call kt.change is kt.calls b k is') h

  -- What objects use.

  -- what is used by an object that stands isn't checked away
  used_apart : (x : Object) (o : ℕ) → IsIn x m.objects → uses_object o x ≡ true → has_users m (own_object call) ≡ false → own_object call ≡ o → ⊥
  used_apart x o k used unused e =
      let none : uses_object (own_object call) x ≡ false = fails_any (uses_object (own_object call)) x m.objects unused k in
      let some : uses_object (own_object call) x ≡ true = ap (λ i. uses_object i x) e ∙ used in
      cc

  old_use : (a : Answer) (m' : State) (t : Turn m c call a m') (x : Object) (o : ℕ) → IsIn x m.objects → uses_object o x ≡ true → StandsLive m'.objects x.file o
  old_use a m' t x o k used = lives_on m.objects m'.objects x.file o (lives_turn a m' t o (λ plan unused e. used_apart x o k used unused e)) (uses x o k used)

  use_as : (a : Answer) (m' n : State) (t : Turn m c call a m') (y : Object) (o : ℕ) → m' ≡ n → (IsIn y n.objects → StandsLive m'.objects y.file o) → IsIn y m'.objects → StandsLive m'.objects y.file o
  use_as a m' n t y o e h k = h (let P : State → Type 0 = λ s. IsIn y s.objects in subst P e k)

  -- a change that makes the object use nothing new, or what the call looks at
  use_changed : (a : Answer) (m' : State) (t : Turn m c call a m') (i : ℕ) (change : Change) (y : Object) (o : ℕ) → ((x : Object) → IsIn x m.objects → x.id ≡ i → Gains change o → StandsLive m'.objects x.file o) → uses_object o y ≡ true → IsIn y (map (on_object i change) m.objects) → StandsLive m'.objects y.file o
  use_changed a m' t i change y o gains used k =
      let from = IsIn-map (on_object i change) y m.objects k in
      let x = from.item in
      let P : ℕ → Type 0 = λ f. StandsLive m'.objects f o in
      subst P (sym (ap (λ (v : Object). v.file) from.gives ∙ on_object-file i change x))
      (⊎_elim
      (λ old. old_use a m' t x o from.within old)
      (λ new. gains x from.within new.0 new.1)
      (on_object-uses i change x o (sym (ap (uses_object o) from.gives) ∙ used)))

  -- the region of a bind
  bound_stands : (a : Answer) (m' : State) (t : Turn m c call a m') (offset long access : ℕ) → InPlan call Act → role_of call.request ≡ Acts (Bind offset long access) → (x : Object) (o : ℕ) → IsIn x m.objects → x.id ≡ acted_on call → looked_at 1 call ≡ o → StandsLive m'.objects x.file o
  bound_stands a m' t offset long access plan role x o k e g =
      let b = bind_at m r c call is offset long access plan role in
      let first = acts_on_first m r c call is b.window _ b.looked refl in
      let second = acts_on_second m r c call is b.region _ b.looked refl in
      let there : looks_at b.region call ≡ true = ap (λ v. list_any (ids.is_number b.region) (ids_of v)) b.looked ∙ or_second (b.window == b.region) (b.region == b.region) (eq-eqb b.region b.region refl) in
      let region : b.region ≡ o = sym second ∙ g in
      let P : ℕ → Type 0 = λ f. StandsLive m'.objects f o in
      subst P (sym (b.windows x k (e ∙ first)).1) (old_look a m' t o (ap (λ i. looks_at i call) (sym region) ∙ there))

  uses_act : (a : Answer) (m' : State) (t : Turn m c call a m') (what : request.Act) → InPlan call Act → role_of call.request ≡ Acts what → (y : Object) (o : ℕ) → uses_object o y ≡ true → IsIn y (act m c call a what).objects → StandsLive m'.objects y.file o
  uses_act a m' t (Modify to attrs) plan role y o used k = old_use a m' t y o k used
  uses_act a m' t Query plan role y o used k = old_use a m' t y o k used
  uses_act a m' t (Bind offset long access) plan role y o used k =
      use_changed a m' t (acted_on call) (ToBound (Some (binding_of call offset long access))) y o (λ x h e g. bound_stands a m' t offset long access plan role x o h e g) used k
  uses_act a m' t (Unbind offset long access) plan role y o used k = use_changed a m' t (acted_on call) (ToBound None) y o (λ x h e g. absurd g) used k
  uses_act a m' t Async plan role y o used k = old_use a m' t y o k used

  uses_turn : (a : Answer) (m' : State) → Turn m c call a m' → UsesStand m'
  uses_turn a m' (Refuses t) y o k used = use_as a m' _ (Refuses t) y o t.gives (λ h. old_use a m' (Refuses t) y o h used) k
  uses_turn a m' (Reserves t) y o k used = use_as a m' _ (Reserves t) y o t.gives (λ h. old_use a m' (Reserves t) y o h used) k
  uses_turn a m' (Looks t) y o k used = use_as a m' _ (Looks t) y o t.gives (λ h. old_use a m' (Looks t) y o h used) k
  uses_turn a m' (Makes t) y o k used =
      let z = object_made m call t.kind t.index in
      let P : ℕ → Type 0 = λ f. StandsLive m'.objects f o in
      use_as a m' _ (Makes t) y o t.gives
      (λ h. ⊎_elim
      (λ old. old_use a m' (Makes t) y o old used)
      (λ new. subst P (sym (ap (λ (v : Object). v.file) new)) (old_look a m' (Makes t) o (sym (ap (uses_object o) new) ∙ used)))
      (in_room y z m.objects h))
      k
  uses_turn a m' (Commits t) y o k used = use_as a m' _ (Commits t) y o t.gives (use_changed a m' (Commits t) (own_object call) ToLive y o (λ x h e g. absurd g) used) k
  uses_turn a m' (Does t) y o k used = use_as a m' _ (Does t) y o t.gives (uses_act a m' (Does t) t.what t.plan t.acts y o used) k
  uses_turn a m' (Locks t) y o k used = use_as a m' _ (Locks t) y o t.gives (λ h. old_use a m' (Locks t) y o h used) k
  uses_turn a m' (Checks t) y o k used = use_as a m' _ (Checks t) y o t.gives (use_changed a m' (Checks t) (own_object call) ToDoomed y o (λ x h e g. absurd g) used) k
  uses_turn a m' (Finishes t) y o k used =
      let Q : List Object → Type 0 = λ v. IsIn y v in
      use_as a m' _ (Finishes t) y o t.gives
      (λ h. old_use a m' (Finishes t) y o (Passes-filter (not_with_id (own_object call)) y m.objects (subst Q (finish_objects m c (own_object call)) h)).within used)
      k
  uses_turn a m' (Aborts t) y o k used = use_as a m' _ (Aborts t) y o t.gives (λ h. old_use a m' (Aborts t) y o h used) k
  uses_turn a m' (Frees t) y o k used = use_as a m' _ (Frees t) y o t.gives (λ h. old_use a m' (Frees t) y o h used) k
  uses_turn a m' (Leaves t) y o k used = use_as a m' _ (Leaves t) y o t.gives (λ h. old_use a m' (Leaves t) y o h used) k

-- The other entries.

looks_same : (m m' : State) → m'.calls ≡ m.calls → ((b o : ℕ) (k : InFlight) → call_of m b ≡ Some k → StandsLive m.objects k.file o → StandsLive m'.objects k.file o) → LooksStand m → LooksStand m'
looks_same m m' calls on looks b o k is h =
    let before = sym (call_of-alike m m' calls b) ∙ is in
    on b o k before (looks b o k before h)

looks_unless : (m m' : State) (e : Option Errno) → LooksStand m → (e ≡ None → LooksStand m') → LooksStand (unless_answered m e m')
looks_unless m m' None l l' = l' refl
looks_unless m m' (Some e) l l' = l

looks_entered : (m : State) (c f : ℕ) (request : Request) → Reached m → call_of m c ≡ None → is_callable (phase_of m f) ≡ true → LooksStand m → LooksStand (record m { calls = at_place m.calls c (put_call (entered f request)) })
looks_entered m c f request r idle callable looks b o k is h =
    ⊎_elim
    (λ new. absurd (let none : looks_at o k ≡ false = sym (ap (looks_at o) new.1) in cc))
    (λ old. looks b o k old.1 h)
    (new_or_old m c f request r idle callable b k is)

-- a file that is being swept has no calls
swept_none : (m : State) (f b : ℕ) (k : InFlight) → may_sweep m f ≡ true → call_of m b ≡ Some k → k.file ≡ f → ⊥
swept_none m f b k swept is same = quiet_none m b f k (and_parts (is_tearing (phase_of m f)) (is_quiet m f) swept).1 is same

killed_look : (m : State) (r : Reached m) (i : ℕ) (s : IsSweptObject m i) (b o : ℕ) (k : InFlight) → call_of m b ≡ Some k → StandsLive m.objects k.file o → i ≡ o → ⊥
killed_look m r i s b o k is l e =
    let one : s.item ≡ l.item = same_object m r s.item l.item s.within l.within (s.id ∙ e ∙ sym l.id) in
    swept_none m s.item.file b k s.swept is (sym l.same ∙ sym (ap (λ (v : Object). v.file) one))

-- what goes is doomed, and so isn't what is live
gone_apart : (m : State) (r : Reached m) (i o f : ℕ) (x : Object) → object_with m i ≡ Some x → is_doomed x.phase ≡ true → StandsLive m.objects f o → i ≡ o → ⊥
gone_apart m r i o f x found doomed l e =
    let p = Passes-find (has_id i) x m.objects found in
    let one : x ≡ l.item = same_object m r x l.item p.within l.within (eqb-true x.id i p.test ∙ e ∙ sym l.id) in
    let live : is_live x.phase ≡ true = ap (λ (v : Object). is_live v.phase) one ∙ l.live in
    live_apart x.phase live (ap (λ b. b || is_husk x.phase) doomed)

looks_gone : (m : State) (i : ℕ) (slot : Option Object) → Reached m → object_with m i ≡ slot → may_go_object m slot ≡ true → LooksStand m → LooksStand (gone_from m i slot)
looks_gone m i None r e may looks = looks
looks_gone m i (Some x) r e may looks =
    let doomed = (and_parts (is_doomed x.phase) (may_sweep m x.file) may).0 in
    looks_same m (gone_from m i (Some x)) refl
    (λ b o k is l. lives_on m.objects (map (on_object i ToHusk) m.objects) k.file o (lives_map m.objects o i ToHusk (λ same. gone_apart m r i o k.file x e doomed l same)) l)
    looks

looks_closed : (m : State) (f : ℕ) → Reached m → is_quiet m f ≡ true → LooksStand m → LooksStand (after m (Closed f))
looks_closed m f r quiet looks =
    looks_same m (after m (Closed f)) refl
    (λ b o k is l. record {
      item = l.item;
      within = into_filter (not_in_file f) m.objects l.item l.within (ap not (ne_eqb l.item.file f (λ same. quiet_none m b f k quiet is (sym l.same ∙ same))));
      id = l.id;
      same = l.same;
      live = l.live;
    })
    looks

closed_quiet : (m : State) (f : ℕ) → Allowed m (Closed f) → is_quiet m f ≡ true
closed_quiet m f allowed =
    let parts = and_parts (is_closing (phase_of m f)) (is_quiet m f && not (has_standing m f)) allowed.1 in
    (and_parts (is_quiet m f) (not (has_standing m f)) parts.1).0

uses_unless : (m m' : State) (e : Option Errno) → UsesStand m → UsesStand m' → UsesStand (unless_answered m e m')
uses_unless m m' None u u' = u'
uses_unless m m' (Some e) u u' = u

-- a change that makes nothing used, and leaves what is used live
uses_map : (m : State) (i : ℕ) (change : Change) → ((o : ℕ) → Gains change o → ⊥) → ((x : Object) (o : ℕ) → IsIn x m.objects → uses_object o x ≡ true → StandsLive m.objects x.file o → i ≡ o → KeepsLive change) → UsesStand m → (y : Object) (o : ℕ) → IsIn y (map (on_object i change) m.objects) → uses_object o y ≡ true → StandsLive (map (on_object i change) m.objects) y.file o
uses_map m i change gains keeps uses y o k used =
    let from = IsIn-map (on_object i change) y m.objects k in
    let x = from.item in
    let objects' = map (on_object i change) m.objects in
    let P : ℕ → Type 0 = λ f. StandsLive objects' f o in
    subst P (sym (ap (λ (v : Object). v.file) from.gives ∙ on_object-file i change x))
    (⊎_elim
    (λ old. (let l = uses x o from.within old in lives_on m.objects objects' x.file o (lives_map m.objects o i change (keeps x o from.within old l)) l))
    (λ new. absurd (gains o new.1))
    (on_object-uses i change x o (sym (ap (uses_object o) from.gives) ∙ used)))

uses_killed : (m : State) (i : ℕ) → Allowed m (Kill i) → UsesStand m → UsesStand (after m (Kill i))
uses_killed m i allowed uses =
    uses_map m i ToDoomed (λ o g. g)
    (λ x o k used l e. absurd (
    let none : uses_object i x ≡ false = fails_any (uses_object i) x m.objects (killed_by m i (object_with m i) allowed) k in
    let some : uses_object i x ≡ true = ap (λ v. uses_object v x) e ∙ used in
    cc))
    uses

uses_gone : (m : State) (i : ℕ) (slot : Option Object) → Reached m → object_with m i ≡ slot → may_go_object m slot ≡ true → UsesStand m → UsesStand (gone_from m i slot)
uses_gone m i None r e may uses = uses
uses_gone m i (Some x) r e may uses =
    let doomed = (and_parts (is_doomed x.phase) (may_sweep m x.file) may).0 in
    uses_map m i ToHusk (λ o g. g) (λ y o k used l same. absurd (gone_apart m r i o y.file x e doomed l same)) uses

uses_closed : (m : State) (f : ℕ) → UsesStand m → UsesStand (after m (Closed f))
uses_closed m f uses y o k used =
    let p = Passes-filter (not_in_file f) y m.objects k in
    let l = uses y o p.within used in
    record {
      item = l.item;
      within = into_filter (not_in_file f) m.objects l.item l.within (ap (λ i. not (i == f)) l.same ∙ p.test);
      id = l.id;
      same = l.same;
      live = l.live;
    }

looks_after : (m : State) (e : Entry) → Reached m → OwnStands m → Allowed m e → LooksStand m → UsesStand m → LooksStand (after m e)
looks_after m (Open c f d a) r own allowed looks uses = looks_unless m _ (refusal_in a) looks (λ e. looks)
looks_after m (Enter c f request a) r own allowed looks uses =
    looks_unless m _ (refusal_in a) looks (λ e. looks_entered m c f request r allowed.2 (was_callable (is_callable (phase_of m f)) _ a allowed.3 e) looks)
looks_after m (Step c w o found a) r own allowed looks uses =
    let t = IsTurn-allowed m c w o found a allowed in
    looks_turn m r own looks uses c t.call t.is a (after m (Step c w o found a)) t.turn
looks_after m (Unplug d) r own allowed looks uses = looks
looks_after m (Tear f by) r own allowed looks uses = looks
looks_after m (Kill i) r own allowed looks uses =
    looks_same m (after m (Kill i)) refl
    (λ b o k is l. lives_on m.objects (map (on_object i ToDoomed) m.objects) k.file o (lives_map m.objects o i ToDoomed (λ e. killed_look m r i (killed_swept m i allowed) b o k is l e)) l)
    looks
looks_after m (Gone i kept) r own allowed looks uses = looks_gone m i (object_with m i) r refl allowed looks
looks_after m (Dissociated f) r own allowed looks uses = looks
looks_after m (Closed f) r own allowed looks uses = looks_closed m f r (closed_quiet m f allowed) looks

uses_after : (m : State) (e : Entry) → Reached m → OwnStands m → Allowed m e → LooksStand m → UsesStand m → UsesStand (after m e)
uses_after m (Open c f d a) r own allowed looks uses = uses_unless m _ (refusal_in a) uses uses
uses_after m (Enter c f request a) r own allowed looks uses = uses_unless m _ (refusal_in a) uses uses
uses_after m (Step c w o found a) r own allowed looks uses =
    let t = IsTurn-allowed m c w o found a allowed in
    uses_turn m r own looks uses c t.call t.is a (after m (Step c w o found a)) t.turn
uses_after m (Unplug d) r own allowed looks uses = uses
uses_after m (Tear f by) r own allowed looks uses = uses
uses_after m (Kill i) r own allowed looks uses = uses_killed m i allowed uses
uses_after m (Gone i kept) r own allowed looks uses = uses_gone m i (object_with m i) r refl allowed uses
uses_after m (Dissociated f) r own allowed looks uses = uses
uses_after m (Closed f) r own allowed looks uses = uses_closed m f uses

-- Whole histories.

pub record Stands (m : State) : Type 0 where
  pub reached : Reached m
  pub numbered : Numbered m
  pub own : OwnStands m
  pub looks : LooksStand m
  pub uses : UsesStand m

stands_after : (m : State) (e : Entry) → Allowed m e → Stands m → Stands (after m e)
stands_after m e allowed s = record {
  reached = Reached-after m e allowed s.reached;
  numbered = numbered_after m e s.reached allowed s.numbered;
  own = owning_after m e s.reached s.numbered allowed s.own;
  looks = looks_after m e s.reached s.own allowed s.looks s.uses;
  uses = uses_after m e s.reached s.own allowed s.looks s.uses;
}

stands_from : (m : State) (h : List Entry) → IsLegalFrom m h → Stands m → Stands (state_from m h)
stands_from m [] legal s = s
stands_from m (e ∷ h) legal s = stands_from (after m e) h legal.1 (stands_after m e legal.0 s)

stands_start : Stands start
unfolding start
stands_start = record {
  reached = Reached-start;
  numbered = numbered_start;
  own = owning_start;
  looks = λ b o k is h. absurd (start_calls b ACTOR_PLACES k is);
  uses = λ x o k used. absurd k;
}

-- what calls look at stands there, live
pub legal_looks_stand : LegalLooksStand
legal_looks_stand h legal = (stands_from start h legal stands_start).looks

-- and so does what objects use
pub legal_uses_stand : LegalUsesStand
legal_uses_stand h legal = (stands_from start h legal stands_start).uses
