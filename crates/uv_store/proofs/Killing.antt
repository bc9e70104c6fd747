-- An object taken out of use by a teardown, in what is kept beside the state.
use Rattle.std.proofs.Common.{◌≡◌, ℕ, ◌+◌, ◌<◌, Bool, true, false, List, Option, Some, None, length, cond, refl, ap, sym, ◌∙◌, subst, arith}
use Rattle.std.specs.Prelude.{slice_get, reverse, ◌&&◌, ◌||◌, ◌==◌, not, sum_by, count_by, if◌then◌else◌}
use Rattle.std.specs.List.{list_any}
use Rattle.std.proofs.lemmas.Bool.{eqb-true, and_parts}
use Rattle.std.proofs.lemmas.List.Sums.{count_by-le-length}
use Rattle.std.proofs.lemmas.Option.{same_Some}
use Rattle.uv_num.specs.declared.limits.TheConstants.{FILES}
use Rattle.uv_num.specs.Place.{at_place}
use Rattle.uv_num.proofs.PlaceLaws.{sum_by-at_place}
use Rattle.uv_machine.specs.declared.entry.Entry.TheVariants.{Kill}
use Rattle.uv_machine.specs.declared.object.Object.{Object}
use Rattle.uv_machine.specs.declared.object.Phase.{Phase}
use Rattle.uv_machine.specs.declared.object.Phase.TheVariants as phase
use Rattle.uv_machine.specs.declared.object.Change.TheVariants.{ToDoomed}
use Rattle.uv_machine.specs.declared.state.State.{State}
use Rattle.uv_machine.specs.Objects.{has_id, in_file, has_handle, is_published_at, is_made, is_live, is_doomed, is_husk, doomed_from, is_doomed_in, is_standing_in, with_change, on_object}
use Rattle.uv_machine.specs.Plans.{reserves}
use Rattle.uv_machine.specs.States.{object_with, published, is_taken, newest_free, can_go, has_users, has_doomed}
use Rattle.uv_machine.specs.Effects.{with_object}
use Rattle.uv_machine.specs.Histories.{Allowed}
use Rattle.uv_machine.specs.Outside.{is_object, may_sweep, may_kill_object}
use Rattle.uv_machine.proofs.Graph.{find_rising}
use Rattle.uv_machine.proofs.Members.{Passes-find, IsIn-from_reverse}
use Rattle.uv_handles.specs.declared.slot.Slot.{Slot}
use Rattle.uv_store.specs.declared.counts.CountChange.TheVariants.{OneMore}
use Rattle.uv_store.specs.declared.mark.Mark.{Mark}
use Rattle.uv_store.specs.Counts.{count_at, recounted}
use Rattle.uv_store.specs.Marks.{uses_by, users_on, mark_on, marks_by}
use Rattle.uv_store.specs.Stored.{IsLegalState, IsStored, StandsAtPlace}
use Rattle.uv_store.specs.Tables.{slot_for, AreTables}
use Rattle.uv_store.proofs.Legal.{reached, bounded, rises}
use Rattle.uv_store.proofs.Placing.{turned_object}
use Rattle.uv_store.proofs.Reading.{place_in}
use Rattle.uv_store.specs.Going.{IsStill}
use Rattle.uv_store.proofs.Still.{marks_alike, mark_alike, still_same, stored_beside}
use Rattle.uv_store.proofs.Turned.{any_map, sum_map, marks_map, slot_map, one_more}

-- What a change out of use leaves of an object.

doomed_made : (p : Phase) → is_made (doomed_from p) ≡ is_made p
doomed_made phase.Made = refl
doomed_made phase.Live = refl
doomed_made phase.Doomed = refl
doomed_made phase.Husk = refl

doomed_husk : (p : Phase) → is_husk (doomed_from p) ≡ is_husk p
doomed_husk phase.Made = refl
doomed_husk phase.Live = refl
doomed_husk phase.Doomed = refl
doomed_husk phase.Husk = refl

live_doomed : (p : Phase) → is_live p ≡ true → (is_doomed p ≡ false) × (is_doomed (doomed_from p) ≡ true)
live_doomed phase.Made e = absurd cc
live_doomed phase.Live e = (refl, refl)
live_doomed phase.Doomed e = absurd cc
live_doomed phase.Husk e = absurd cc

-- what a change doesn't touch, it leaves of each object
on_each : {Y : Type 0} (o : ℕ) (f : Object → Y) → ((x : Object) → f (with_change ToDoomed x) ≡ f x) → (x : Object) → f (on_object o ToDoomed x) ≡ f x
on_each o f same x = elim (has_id o x) as (λ b. f (if b then with_change ToDoomed x else x) ≡ f x) [ true ↦ same x | false ↦ refl ]

and_false : (b : Bool) → (b && false) ≡ false
and_false true = refl
and_false false = refl

and_true : (b : Bool) → (b && true) ≡ b
and_true true = refl
and_true false = refl

abbrev pub one_doomed : ℕ → Object → ℕ
one_doomed f x = cond (is_doomed_in f x) 1 0

module _ (m : State) (l : IsLegalState m) (o : ℕ) (x : Object) (is : object_with m o ≡ Some x) (live : is_live x.phase ≡ true) where
  abbrev pub later : State
  later = with_object m o ToDoomed

  place : (i : ℕ) × (slice_get m.objects i ≡ Some x)
  place = place_in x m.objects (Passes-find (has_id o) x m.objects is).within

  stands : StandsAtPlace m.objects o place.0
  stands = record { item = x; at = place.1; id = eqb-true x.id o (Passes-find (has_id o) x m.objects is).test }

  marked_doomed : (marks : List Mark) → marks ≡ marks_by (mark_on m) m.objects → marks ≡ marks_by (mark_on later) later.objects
  marked_doomed marks e =
      let users : (i : ℕ) → users_on m.objects i ≡ users_on later.objects i = λ i. sym (sum_map (uses_by i) (on_object o ToDoomed) m.objects (on_each o (uses_by i) (λ y. refl))) in
      e
      ∙ (marks_alike (mark_on m) (mark_on later) m.objects (λ i. mark_alike (mark_on m i) (mark_on later i) refl (users i))
      ∙ sym (marks_map (mark_on later) (on_object o ToDoomed) m.objects (on_each o (λ y. y.id) (λ y. refl))))

  tabled_doomed : (tables : List (List Slot)) → AreTables tables m → AreTables tables later
  tabled_doomed tables are f n =
      let seen : (y : Object) → is_published_at f n (on_object o ToDoomed y) ≡ is_published_at f n y = on_each o (is_published_at f n) (λ y. ap (λ b. has_handle f n y && not b) (doomed_made y.phase)) in
      let kept : list_any (has_handle f n) later.objects ≡ list_any (has_handle f n) m.objects = any_map (has_handle f n) (on_object o ToDoomed) m.objects (on_each o (has_handle f n) (λ y. refl)) in
      are f n
      ∙ (sym (slot_map (is_published_at f n) (on_object o ToDoomed) (is_taken m f n) m.objects seen (on_each o (λ y. y.id) (λ y. refl)))
      ∙ ap (λ b. slot_for (published later f n) (b || list_any (reserves f n) m.calls)) (sym kept))

  standing_doomed : (f : ℕ) → count_by (is_standing_in f) m.objects ≡ count_by (is_standing_in f) later.objects
  standing_doomed f =
      let w : Object → ℕ = λ y. cond (is_standing_in f y) 1 0 in
      sym (sum_map w (on_object o ToDoomed) m.objects (on_each o w (λ y. ap (λ b. cond (in_file f y && not b) 1 0) (doomed_husk y.phase))))

  counted_doomed : (f : ℕ) → count_by (is_doomed_in f) later.objects ≡ count_by (is_doomed_in f) m.objects + cond (x.file == f) 1 0
  counted_doomed f =
      let phases = live_doomed x.phase live in
      let old : one_doomed f x ≡ 0 = ap (λ b. cond ((x.file == f) && b) 1 0) phases.0 ∙ ap (λ b. cond b 1 0) (and_false (x.file == f)) in
      let new : one_doomed f (with_change ToDoomed x) ≡ cond (x.file == f) 1 0 = ap (λ b. cond ((x.file == f) && b) 1 0) phases.1 ∙ ap (λ b. cond b 1 0) (and_true (x.file == f)) in
      let here = sum_by-at_place (one_doomed f) m.objects place.0 (with_change ToDoomed) x place.1 in
      let same = ap (sum_by (one_doomed f)) (turned_object m.objects o place.0 ToDoomed (rises m l) stands) in
      omega (arith, here, same, old, new)

  -- the same of a state that differs in what isn't kept beside it
  pub stored_doomed_as : (m' : State) → IsStill later m' → (marks : List Mark) (tables : List (List Slot)) (doomed doomed' standing : List ℕ) → IsStored m marks tables doomed standing → doomed' ≡ at_place doomed x.file (recounted OneMore) → length doomed ≡ FILES → IsLegalState m' → IsStored m' marks tables doomed' standing
  stored_doomed_as m' still marks tables doomed doomed' standing s is' size legal =
      let p = Passes-find (has_id o) x m.objects is in
      let low = ((bounded m l).handles x p.within).0 in
      let few : count_at doomed x.file < 65536 = omega (arith, s.dooms x.file, count_by-le-length (is_doomed_in x.file) m.objects, (bounded m l).objects) in
      stored_beside later m' marks tables doomed' standing (marked_doomed marks s.marked) s.files (tabled_doomed tables s.tabled)
      (λ f. ap (λ v. count_at v f) is' ∙ (one_more doomed x.file f (omega (arith, low, size)) few ∙ (ap (λ n. n + cond (x.file == f) 1 0) (s.dooms f) ∙ sym (counted_doomed f))))
      (λ f. s.stands f ∙ standing_doomed f) still legal

  pub stored_doomed : (marks : List Mark) (tables : List (List Slot)) (doomed doomed' standing : List ℕ) → IsStored m marks tables doomed standing → doomed' ≡ at_place doomed x.file (recounted OneMore) → length doomed ≡ FILES → IsLegalState later → IsStored later marks tables doomed' standing
  stored_doomed = stored_doomed_as later (still_same later later refl refl)

-- What a Kill names is live.

killed_in : (m : State) (l : IsLegalState m) (o f : ℕ) (x : Object) (y : Option Object) → newest_free m f ≡ y → is_object o y ≡ true → object_with m o ≡ Some x → is_live x.phase ≡ true
killed_in m l o f x None e named is = absurd cc
killed_in m l o f x (Some y) e named is =
    let p = Passes-find (can_go m f) y (reverse m.objects) e in
    let within = IsIn-from_reverse y m.objects p.within in
    let P : ℕ → Type 0 = λ v. object_with m v ≡ Some y in
    let found = subst P (eqb-true y.id o named) (find_rising 0 m.made y m.objects within (reached m l).graph.rising) in
    let same : y ≡ x = same_Some _ _ (sym found ∙ is) in
    let goes = and_parts (in_file f y) (is_live y.phase && not (has_users m y.id)) p.test in
    ap (λ (v : Object). is_live v.phase) (sym same) ∙ (and_parts (is_live y.phase) (not (has_users m y.id)) goes.1).0

pub killed_live : (m : State) (l : IsLegalState m) (o : ℕ) (x : Object) → object_with m o ≡ Some x → Allowed m (Kill o) → is_live x.phase ≡ true
killed_live m l o x is allowed =
    let may : may_kill_object m o (Some x) ≡ true = ap (may_kill_object m o) (sym is) ∙ allowed in
    let parts = and_parts (may_sweep m x.file) (not (has_doomed m x.file) && is_object o (newest_free m x.file)) may in
    let named = and_parts (not (has_doomed m x.file)) (is_object o (newest_free m x.file)) parts.1 in
    killed_in m l o x.file x (newest_free m x.file) refl named.1 is
