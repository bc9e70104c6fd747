-- Objects changed, in what is kept beside the state.
use Rattle.std.proofs.Common.{◌≡◌, ◌≢◌, ℕ, ◌+◌, ◌-◌, ◌<◌, Bool, true, false, List, [], ◌∷◌, Some, length, map, cond, refl, ap, sym, ◌∙◌, subst, arith}
use Rattle.std.specs.Prelude.{find, ◌||◌, ◌==◌, sum_by, option_map, if◌then◌else◌}
use Rattle.std.specs.List.{list_any}
use Rattle.std.proofs.lemmas.Bool.{eq-eqb, eqb-true}
use Rattle.std.proofs.lemmas.List.Sums.{sum_by-cons}
use Rattle.std.proofs.lemmas.Option.{slice_get-get_or}
use Rattle.uv_num.specs.Place.{at_place}
use Rattle.uv_num.proofs.PlaceLaws.{slice_get-at_place_same, slice_get-at_place_other}
use Rattle.uv_machine.specs.declared.object.Object.{Object}
use Rattle.uv_handles.specs.declared.slot.Slot.TheVariants.{Published}
use Rattle.uv_store.specs.declared.counts.CountChange.{CountChange}
use Rattle.uv_store.specs.declared.counts.CountChange.TheVariants.{OneMore, OneLess}
use Rattle.uv_store.specs.declared.mark.Mark.{Mark}
use Rattle.uv_store.specs.Counts.{count_in, count_at, recounted}
use Rattle.uv_store.specs.Marks.{marks_by}
use Rattle.uv_store.specs.Tables.{slot_for}
use Rattle.uv_store.proofs.Beside.{lt_true}

-- A map that a test, a weight, or ids don't see.

pub any_map : {X : Type 0} (p : X → Bool) (h : X → X) (xs : List X) → ((x : X) → p (h x) ≡ p x) → list_any p (map h xs) ≡ list_any p xs
any_map p h [] same = refl
any_map p h (x ∷ xs) same = ap (λ b. b || list_any p (map h xs)) (same x) ∙ ap (λ b. p x || b) (any_map p h xs same)

pub sum_map : {X : Type 0} (f : X → ℕ) (h : X → X) (xs : List X) → ((x : X) → f (h x) ≡ f x) → sum_by f (map h xs) ≡ sum_by f xs
sum_map f h [] same = refl
sum_map f h (x ∷ xs) same = omega (arith, sum_by-cons f (h x) (map h xs), sum_by-cons f x xs, same x, sum_map f h xs same)

pub marks_map : (g : ℕ → Mark) (h : Object → Object) (xs : List Object) → ((x : Object) → (h x).id ≡ x.id) → marks_by g (map h xs) ≡ marks_by g xs
marks_map g h [] same = refl
marks_map g h (x ∷ xs) same = ap (λ i. g i ∷ marks_by g (map h xs)) (same x) ∙ ap (λ v. g x.id ∷ v) (marks_map g h xs same)

pub slot_map : (p : Object → Bool) (h : Object → Object) (taken : Bool) (xs : List Object) → ((x : Object) → p (h x) ≡ p x) → ((x : Object) → (h x).id ≡ x.id) → slot_for (find p (map h xs)) taken ≡ slot_for (find p xs) taken
slot_map p h taken [] same ids = refl
slot_map p h taken (x ∷ xs) same ids =
    let rest = slot_map p h taken xs same ids in
    ap (λ b. slot_for (cond b (Some (h x)) (find p (map h xs))) taken) (same x)
    ∙ elim (p x) as (λ b. slot_for (cond b (Some (h x)) (find p (map h xs))) taken ≡ slot_for (cond b (Some x) (find p xs)) taken) [ true ↦ ap (λ i. Published i) (ids x) | false ↦ rest ]

-- A count that goes up or down in one file.

other_count : (counts : List ℕ) (a f : ℕ) (change : CountChange) → f ≢ a → count_at (at_place counts a (recounted change)) f ≡ count_at counts f
other_count counts a f change apart = ap count_in (slice_get-at_place_other counts a f (recounted change) apart)

own_count : (counts : List ℕ) (a : ℕ) (change : CountChange) → a < length counts → count_at (at_place counts a (recounted change)) a ≡ recounted change (count_at counts a)
own_count counts a change within =
    let there = slice_get-get_or counts a 0 within in
    ap count_in (slice_get-at_place_same counts a (recounted change) ∙ ap (option_map (recounted change)) there)
    ∙ ap (recounted change) (sym (ap count_in there))

pub one_more : (counts : List ℕ) (a f : ℕ) → a < length counts → count_at counts a < 65536 → count_at (at_place counts a (recounted OneMore)) f ≡ count_at counts f + cond (a == f) 1 0
one_more counts a f within low = by (a == f) refl
  where
    by : (b : Bool) → (a == f) ≡ b → count_at (at_place counts a (recounted OneMore)) f ≡ count_at counts f + cond b 1 0
    by true e =
        let same : a ≡ f = eqb-true a f e in
        let P : ℕ → Type 0 = λ v. count_at (at_place counts a (recounted OneMore)) v ≡ count_at counts v + 1 in
        subst P same (own_count counts a OneMore within ∙ ap (λ b. if b then count_at counts a + 1 else count_at counts a) (lt_true (count_at counts a) 65536 low))
    by false e =
        let apart : f ≢ a = λ same. (let yes = eq-eqb a f (sym same) in cc) in
        let none : count_at counts f ≡ count_at counts f + 0 = omega arith in
        other_count counts a f OneMore apart ∙ none

pub one_less : (counts : List ℕ) (a f : ℕ) → a < length counts → count_at (at_place counts a (recounted OneLess)) f ≡ count_at counts f - cond (a == f) 1 0
one_less counts a f within = by (a == f) refl
  where
    by : (b : Bool) → (a == f) ≡ b → count_at (at_place counts a (recounted OneLess)) f ≡ count_at counts f - cond b 1 0
    by true e =
        let same : a ≡ f = eqb-true a f e in
        let P : ℕ → Type 0 = λ v. count_at (at_place counts a (recounted OneLess)) v ≡ count_at counts v - 1 in
        subst P same (own_count counts a OneLess within)
    by false e =
        let apart : f ≢ a = λ same. (let yes = eq-eqb a f (sym same) in cc) in
        let none : count_at counts f ≡ count_at counts f - 0 = omega arith in
        other_count counts a f OneLess apart ∙ none
