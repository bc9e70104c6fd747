-- An object released by a teardown, in what is kept beside the state: it is a husk, which uses nothing and isn't counted.
use Rattle.std.proofs.Common.{◌≡◌, ℕ, ◌+◌, ◌-◌, Bool, true, false, List, Some, length, cond, refl, ap, sym, ◌∙◌, subst, arith}
use Rattle.std.specs.Prelude.{slice_get, not, ◌==◌, ◌||◌, ◌&&◌, sum_by, count_by, if◌then◌else◌}
use Rattle.std.specs.List.{list_any}
use Rattle.std.proofs.lemmas.Bool.{eqb-true, and_parts}
use Rattle.uv_num.specs.declared.limits.TheConstants.{FILES}
use Rattle.uv_num.specs.Ids.{ids_of}
use Rattle.uv_num.specs.Place.{at_place}
use Rattle.uv_num.proofs.PlaceLaws.{sum_by-at_place}
use Rattle.uv_machine.specs.declared.entry.Entry.TheVariants.{Gone}
use Rattle.uv_machine.specs.declared.object.Object.{Object}
use Rattle.uv_machine.specs.declared.object.Phase.{Phase}
use Rattle.uv_machine.specs.declared.object.Phase.TheVariants as phase
use Rattle.uv_machine.specs.declared.object.Change.TheVariants.{ToHusk}
use Rattle.uv_machine.specs.declared.state.State.{State}
use Rattle.uv_machine.specs.Objects.{has_id, has_handle, is_published_at, is_made, is_doomed, is_husk, is_doomed_in, is_standing_in, with_change, on_object}
use Rattle.uv_machine.specs.Plans.{reserves}
use Rattle.uv_machine.specs.States.{object_with, published, is_taken}
use Rattle.uv_machine.specs.Effects.{with_object, with_burial, gone_from}
use Rattle.uv_machine.specs.Histories.{Allowed, after}
use Rattle.uv_machine.specs.Outside.{may_sweep, may_go_object}
use Rattle.uv_machine.specs.Reached.{IsIn}
use Rattle.uv_machine.proofs.Keeping.{same_object}
use Rattle.uv_machine.proofs.Members.{Passes-find}
use Rattle.uv_handles.specs.declared.slot.Slot.{Slot}
use Rattle.uv_store.specs.declared.counts.CountChange.TheVariants.{OneLess}
use Rattle.uv_store.specs.declared.mark.Mark.{Mark}
use Rattle.uv_store.specs.declared.mark.MarkChange.TheVariants.{LosesUser}
use Rattle.uv_store.specs.Counts.{count_at, recounted}
use Rattle.uv_store.specs.Marks.{uses_by, users_on, mark_on, marks_by, marks_at}
use Rattle.uv_store.specs.Stored.{IsLegalState, IsStored}
use Rattle.uv_store.specs.Tables.{slot_for, AreTables}
use Rattle.uv_store.proofs.Legal.{goes_on, reached, bounded, rises}
use Rattle.uv_store.proofs.Placing.{turned_object}
use Rattle.uv_store.proofs.Reading.{place_in}
use Rattle.uv_store.proofs.Slots.{slot_map_in, on_every}
use Rattle.uv_store.proofs.Still.{marks_alike, mark_alike, still_same, stored_beside}
use Rattle.uv_store.proofs.Turned.{any_map, marks_map, one_less}
use Rattle.uv_store.proofs.Users.{loses_all, less_used}

doomed_only : (p : Phase) → is_doomed p ≡ true → (is_made p ≡ false) × (is_husk p ≡ false)
doomed_only phase.Made e = absurd cc
doomed_only phase.Live e = absurd cc
doomed_only phase.Doomed e = (refl, refl)
doomed_only phase.Husk e = absurd cc

and_false : (b : Bool) → (b && false) ≡ false
and_false true = refl
and_false false = refl

and_true : (b : Bool) → (b && true) ≡ b
and_true true = refl
and_true false = refl

abbrev one_by : (ℕ → Object → Bool) → ℕ → Object → ℕ
one_by p f y = cond (p f y) 1 0

module _ (m : State) (l : IsLegalState m) (o kept : ℕ) (x : Object) (is : object_with m o ≡ Some x) (allowed : Allowed m (Gone o kept)) where
  abbrev bare : State
  bare = with_object m o ToHusk

  abbrev later : State
  later = with_burial bare x

  gives : after m (Gone o kept) ≡ later
  gives = ap (gone_from m o) is

  legal : IsLegalState later
  legal = let Q : State → Type 0 = λ v. IsLegalState v in subst Q gives (goes_on m (Gone o kept) l allowed)

  doomed : is_doomed x.phase ≡ true
  doomed = (and_parts (is_doomed x.phase) (may_sweep m x.file) (ap (may_go_object m) (sym is) ∙ allowed)).0

  within : IsIn x m.objects
  within = (Passes-find (has_id o) x m.objects is).within

  id : x.id ≡ o
  id = eqb-true x.id o (Passes-find (has_id o) x m.objects is).test

  place : (i : ℕ) × (slice_get m.objects i ≡ Some x)
  place = place_in x m.objects within

  -- what the objects weigh together, by the weight of the one that changes
  weighs : (w : Object → ℕ) → sum_by w bare.objects + w x ≡ sum_by w m.objects + w (with_change ToHusk x)
  weighs w =
      let here = sum_by-at_place w m.objects place.0 (with_change ToHusk) x place.1 in
      let same = ap (sum_by w) (turned_object m.objects o place.0 ToHusk (rises m l) (record { item = x; at = place.1; id = id })) in
      omega (arith, here, same)

  users_less : (i : ℕ) → users_on m.objects i - uses_by i x ≡ users_on bare.objects i
  users_less i = let none : uses_by i (with_change ToHusk x) ≡ 0 = refl in omega (arith, weighs (uses_by i), none)

  marks_now : (i : ℕ) → marks_at LosesUser (ids_of x.uses) (mark_on m) i ≡ mark_on bare i
  marks_now i =
      loses_all (ids_of x.uses) (mark_on m) i ∙ mark_alike (less_used (mark_on m i) (uses_by i x)) (mark_on bare i) refl (users_less i)

  marked : (marks marks' : List Mark) → marks' ≡ marks_by (marks_at LosesUser (ids_of x.uses) (mark_on m)) m.objects → marks' ≡ marks_by (mark_on bare) bare.objects
  marked marks marks' e =
      e
      ∙ (marks_alike (marks_at LosesUser (ids_of x.uses) (mark_on m)) (mark_on bare) m.objects marks_now
      ∙ sym (marks_map (mark_on bare) (on_object o ToHusk) m.objects (on_every o ToHusk (λ y. y.id) (λ y. refl))))

  seen : (k i : ℕ) (y : Object) → IsIn y m.objects → (b : Bool) → has_id o y ≡ b → is_published_at k i (if b then with_change ToHusk y else y) ≡ is_published_at k i y
  seen k i y w false e = refl
  seen k i y w true e =
      let same : x ≡ y = same_object m (reached m l) x y within w (id ∙ sym (eqb-true y.id o e)) in
      let out : is_made y.phase ≡ false = ap (λ (v : Object). is_made v.phase) (sym same) ∙ (doomed_only x.phase doomed).0 in
      sym (ap (λ v. has_handle k i y && not v) out)

  tabled : (tables : List (List Slot)) → AreTables tables m → AreTables tables bare
  tabled tables are k i =
      let stays : list_any (has_handle k i) bare.objects ≡ list_any (has_handle k i) m.objects = any_map (has_handle k i) (on_object o ToHusk) m.objects (on_every o ToHusk (has_handle k i) (λ y. refl)) in
      are k i
      ∙ (sym (slot_map_in (is_published_at k i) (on_object o ToHusk) (is_taken m k i) m.objects (λ y w. seen k i y w (has_id o y) refl) (on_every o ToHusk (λ y. y.id) (λ y. refl)))
      ∙ ap (λ b. slot_for (published bare k i) (b || list_any (reserves k i) m.calls)) (sym stays))

  doomed_less : (f : ℕ) → count_by (is_doomed_in f) m.objects - cond (x.file == f) 1 0 ≡ count_by (is_doomed_in f) bare.objects
  doomed_less f =
      let old : one_by is_doomed_in f x ≡ cond (x.file == f) 1 0 = ap (λ b. cond ((x.file == f) && b) 1 0) doomed ∙ ap (λ b. cond b 1 0) (and_true (x.file == f)) in
      let new : one_by is_doomed_in f (with_change ToHusk x) ≡ 0 = ap (λ b. cond b 1 0) (and_false (x.file == f)) in
      omega (arith, weighs (one_by is_doomed_in f), old, new)

  standing_less : (f : ℕ) → count_by (is_standing_in f) m.objects - cond (x.file == f) 1 0 ≡ count_by (is_standing_in f) bare.objects
  standing_less f =
      let old : one_by is_standing_in f x ≡ cond (x.file == f) 1 0 = ap (λ b. cond ((x.file == f) && not b) 1 0) (doomed_only x.phase doomed).1 ∙ ap (λ b. cond b 1 0) (and_true (x.file == f)) in
      let new : one_by is_standing_in f (with_change ToHusk x) ≡ 0 = ap (λ b. cond b 1 0) (and_false (x.file == f)) in
      omega (arith, weighs (one_by is_standing_in f), old, new)

  pub stored_gone : (marks marks' : List Mark) (tables : List (List Slot)) (dooms dooms' standing standing' : List ℕ) → IsStored m marks tables dooms standing → marks' ≡ marks_by (marks_at LosesUser (ids_of x.uses) (mark_on m)) m.objects → dooms' ≡ at_place dooms x.file (recounted OneLess) → length dooms ≡ FILES → standing' ≡ at_place standing x.file (recounted OneLess) → length standing ≡ FILES → IsStored (with_burial (with_object m o ToHusk) x) marks' tables dooms' standing'
  stored_gone marks marks' tables dooms dooms' standing standing' s e d long t wide =
      let file = ((bounded m l).handles x within).0 in
      stored_beside bare later marks' tables dooms' standing' (marked marks marks' e) s.files (tabled tables s.tabled)
      (λ f. ap (λ v. count_at v f) d ∙ (one_less dooms x.file f (omega (arith, file, long)) ∙ (ap (λ n. n - cond (x.file == f) 1 0) (s.dooms f) ∙ doomed_less f)))
      (λ f. ap (λ v. count_at v f) t ∙ (one_less standing x.file f (omega (arith, file, wide)) ∙ (ap (λ n. n - cond (x.file == f) 1 0) (s.stands f) ∙ standing_less f)))
      (still_same bare later refl refl) legal
