-- A window bound anew, in what is kept beside the state: what it used has a user less, and what it uses then one more.
use Rattle.std.proofs.Common.{◌≡◌, ℕ, ◌+◌, ◌-◌, ◌≤◌, Bool, List, Option, Some, None, length, cond, refl, ap, sym, ◌∙◌, subst, arith}
use Rattle.std.specs.Prelude.{slice_get, ◌||◌, sum_by, count_by, option_map}
use Rattle.std.specs.List.{list_any}
use Rattle.std.proofs.lemmas.Bool.{eqb-true}
use Rattle.std.proofs.lemmas.Option.{none-some, same_Some}
use Rattle.uv_num.specs.declared.request.Act as request
use Rattle.uv_num.specs.declared.request.Act.TheVariants.{Modify, Query, Bind, Unbind, Async}
use Rattle.uv_num.specs.declared.ids.Ids.{Ids}
use Rattle.uv_num.specs.Ids.{ids_of, is_number}
use Rattle.uv_num.specs.Request.{role_of}
use Rattle.uv_num.proofs.PlaceLaws.{sum_by-at_place}
use Rattle.uv_machine.specs.declared.entry.Answer.{Answer}
use Rattle.uv_machine.specs.declared.entry.CallStep.{CallStep}
use Rattle.uv_machine.specs.declared.entry.Word.TheVariants.{Act}
use Rattle.uv_machine.specs.declared.call.InFlight.{InFlight}
use Rattle.uv_machine.specs.declared.object.Binding.{Binding}
use Rattle.uv_machine.specs.declared.object.Object.{Object}
use Rattle.uv_machine.specs.declared.object.Change.TheVariants.{ToBound}
use Rattle.uv_machine.specs.declared.state.State.{State}
use Rattle.uv_machine.specs.Objects.{has_id, has_handle, is_published_at, is_doomed_in, is_standing_in, bound_uses, with_change, on_object}
use Rattle.uv_machine.specs.Plans.{acted_on, reserves, with_outcome}
use Rattle.uv_machine.specs.States.{object_with, published, is_taken}
use Rattle.uv_machine.specs.Effects.{with_call, with_object, act, act_by, unless_refused}
use Rattle.uv_machine.specs.Histories.{after}
use Rattle.uv_machine.specs.Reached.{IsIn}
use Rattle.uv_machine.proofs.Members.{Passes-find}
use Rattle.uv_handles.specs.declared.slot.Slot.{Slot}
use Rattle.uv_store.specs.declared.mark.Mark.{Mark}
use Rattle.uv_store.specs.declared.mark.MarkChange.TheVariants.{GainsUser, LosesUser}
use Rattle.uv_store.specs.Going.{Goes, Binds, IsStill, bound_by, entry_by}
use Rattle.uv_store.specs.Marks.{uses_by, users_on, mark_on, marks_by, marks_at}
use Rattle.uv_store.specs.Stored.{IsLegalState, IsStored}
use Rattle.uv_store.specs.Tables.{slot_for, AreTables}
use Rattle.uv_store.proofs.Beside.{value_le}
use Rattle.uv_store.proofs.Legal.{goes_on, bounded, rises}
use Rattle.uv_store.proofs.Passing.{outcome_alike}
use Rattle.uv_store.proofs.Placing.{turned_object, no_object}
use Rattle.uv_store.proofs.Reading.{place_in}
use Rattle.uv_store.proofs.Slots.{on_every}
use Rattle.uv_store.proofs.Still.{marks_alike, mark_alike, still_calls, stored_beside}
use Rattle.uv_store.proofs.Stored.{went}
use Rattle.uv_store.proofs.Turned.{any_map, sum_map, marks_map, slot_map}
use Rattle.uv_store.proofs.Users.{loses_all, less_used, gains_all, more_used, users_few}
use Rattle.uv_store.proofs.Words.{ids_few}

abbrev one_by : (ℕ → Object → Bool) → ℕ → Object → ℕ
one_by p f y = cond (p f y) 1 0

by_act : (m : State) (c : ℕ) (call : InFlight) (a : Answer) (binding : Option Binding) (what : request.Act) → bound_by call what ≡ Some binding → act m c call a what ≡ with_call (with_object m (acted_on call) (ToBound binding)) c (with_outcome a)
by_act m c call a binding (Modify to attrs) e = absurd (none-some _ e)
by_act m c call a binding Query e = absurd (none-some _ e)
by_act m c call a binding (Bind offset long access) e = ap (λ b. with_call (with_object m (acted_on call) (ToBound b)) c (with_outcome a)) (same_Some _ _ e)
by_act m c call a binding (Unbind offset long access) e = ap (λ b. with_call (with_object m (acted_on call) (ToBound b)) c (with_outcome a)) (same_Some _ _ e)
by_act m c call a binding Async e = absurd (none-some _ e)

module _ (m : State) (l : IsLegalState m) (c : ℕ) (d : CallStep) (call : InFlight) (binding : Option Binding) (goes : Goes m c d Act) (binds : Binds m c call binding) where
  abbrev o : ℕ
  o = acted_on call

  abbrev bare : State
  bare = with_object m o (ToBound binding)

  pub bind_gives : after m (entry_by c d) ≡ with_call (with_object m (acted_on call) (ToBound binding)) c (with_outcome d.answer)
  bind_gives =
      went m c d Act call binds.is goes.word
      ∙ (ap (λ r. unless_refused m c r (act_by m c call d.answer (role_of call.request))) goes.fine
      ∙ (ap (act_by m c call d.answer) binds.acts ∙ by_act m c call d.answer binding binds.what binds.bound))

  abbrev later : State
  later = with_call bare c (with_outcome d.answer)

  -- where there is no such object
  pub still_bind : object_with m (acted_on call) ≡ None → IsStill m (after m (entry_by c d))
  still_bind none =
      let P : State → Type 0 = λ v. IsStill m v in
      subst P (sym bind_gives) (still_calls m later c (option_map (with_outcome d.answer)) (no_object m.objects o (ToBound binding) none) refl (λ s e. outcome_alike d.answer s))

  legal : IsLegalState later
  legal = let Q : State → Type 0 = λ v. IsLegalState v in subst Q bind_gives (goes_on m (entry_by c d) l goes.allowed)

  module _ (x : Object) (is : object_with m o ≡ Some x) where
    within : IsIn x m.objects
    within = (Passes-find (has_id o) x m.objects is).within

    place : (i : ℕ) × (slice_get m.objects i ≡ Some x)
    place = place_in x m.objects within

    -- what the objects weigh together, by the weight of the one that changes
    weighs : (w : Object → ℕ) → sum_by w bare.objects + w x ≡ sum_by w m.objects + w (with_change (ToBound binding) x)
    weighs w =
        let here = sum_by-at_place w m.objects place.0 (with_change (ToBound binding)) x place.1 in
        let id = eqb-true x.id o (Passes-find (has_id o) x m.objects is).test in
        let same = ap (sum_by w) (turned_object m.objects o place.0 (ToBound binding) (rises m l) (record { item = x; at = place.1; id = id })) in
        omega (arith, here, same)

    one_of : (i : ℕ) → uses_by i x ≤ users_on m.objects i
    one_of i = let le = value_le (uses_by i) m.objects place.0 in let is : slice_get m.objects place.0 ≡ Some x = place.1 in rw is at le

    abbrev uses : Ids
    uses = bound_uses binding x.uses

    marks_now : (i : ℕ) → marks_at GainsUser (ids_of uses) (marks_at LosesUser (ids_of x.uses) (mark_on m)) i ≡ mark_on bare i
    marks_now i =
        let less = loses_all (ids_of x.uses) (mark_on m) i in
        let users : (marks_at LosesUser (ids_of x.uses) (mark_on m) i).users ≡ users_on m.objects i - uses_by i x = ap (λ (k : Mark). k.users) less in
        let few : (marks_at LosesUser (ids_of x.uses) (mark_on m) i).users + length (ids_of uses) ≤ 65536 = omega (arith, users, users_few m.objects i, (bounded m l).objects, ids_few uses) in
        let new = count_by (is_number i) (ids_of uses) in
        let sum : users_on bare.objects i + uses_by i x ≡ users_on m.objects i + new = weighs (uses_by i) in
        gains_all (ids_of uses) (marks_at LosesUser (ids_of x.uses) (mark_on m)) i few
        ∙ (ap (λ k. more_used k new) less
        ∙ mark_alike (more_used (less_used (mark_on m i) (uses_by i x)) new) (mark_on bare i) refl (omega (arith, sum, one_of i)))

    marked : (marks : List Mark) → marks ≡ marks_by (marks_at GainsUser (ids_of uses) (marks_at LosesUser (ids_of x.uses) (mark_on m))) m.objects → marks ≡ marks_by (mark_on bare) bare.objects
    marked marks e =
        e
        ∙ (marks_alike (marks_at GainsUser (ids_of uses) (marks_at LosesUser (ids_of x.uses) (mark_on m))) (mark_on bare) m.objects marks_now
        ∙ sym (marks_map (mark_on bare) (on_object o (ToBound binding)) m.objects (on_every o (ToBound binding) (λ y. y.id) (λ y. refl))))

    tabled : (tables : List (List Slot)) → AreTables tables m → AreTables tables bare
    tabled tables are k i =
        let kept : list_any (has_handle k i) bare.objects ≡ list_any (has_handle k i) m.objects = any_map (has_handle k i) (on_object o (ToBound binding)) m.objects (on_every o (ToBound binding) (has_handle k i) (λ y. refl)) in
        are k i
        ∙ (sym (slot_map (is_published_at k i) (on_object o (ToBound binding)) (is_taken m k i) m.objects (on_every o (ToBound binding) (is_published_at k i) (λ y. refl)) (on_every o (ToBound binding) (λ y. y.id) (λ y. refl)))
        ∙ ap (λ b. slot_for (published bare k i) (b || list_any (reserves k i) m.calls)) (sym kept))

    counted : (p : ℕ → Object → Bool) → ((f : ℕ) (y : Object) → p f (with_change (ToBound binding) y) ≡ p f y) → (f : ℕ) → count_by (p f) m.objects ≡ count_by (p f) bare.objects
    counted p same f = sym (sum_map (one_by p f) (on_object o (ToBound binding)) m.objects (on_every o (ToBound binding) (one_by p f) (λ y. ap (λ b. cond b 1 0) (same f y))))

    pub stored_bind : (marks marks' : List Mark) (tables : List (List Slot)) (doomed standing : List ℕ) → IsStored m marks tables doomed standing → marks' ≡ marks_by (marks_at GainsUser (ids_of (bound_uses binding x.uses)) (marks_at LosesUser (ids_of x.uses) (mark_on m))) m.objects → IsStored (with_call (with_object m (acted_on call) (ToBound binding)) c (with_outcome d.answer)) marks' tables doomed standing
    stored_bind marks marks' tables doomed standing s e =
        stored_beside bare later marks' tables doomed standing (marked marks' e) s.files (tabled tables s.tabled)
        (λ f. s.dooms f ∙ counted is_doomed_in (λ k y. refl) f)
        (λ f. s.stands f ∙ counted is_standing_in (λ k y. refl) f)
        (still_calls bare later c (option_map (with_outcome d.answer)) refl refl (λ v h. outcome_alike d.answer v)) legal
