-- The place of an object by its id, where ids rise, and what a change at that place makes of objects and marks.
use Rattle.std.proofs.Common.{◌≡◌, ℕ, zero, suc, ◌+◌, ◌<◌, ◌≤◌, Bool, true, false, List, [], ◌∷◌, Some, None, Ok, Err, length, map, get_or, cond, inl, inr, refl, ap, sym, ◌∙◌, arith, ⊎_elim}
use Rattle.std.specs.Prelude.{slice_get, find, filter, not, if◌then◌else◌}
use Rattle.std.specs.List.{remove}
use Rattle.std.specs.List.Sorted.{IsBinarySearchResult, IsNonDecreasingBy}
use Rattle.std.specs.Ordering.{nat_cmp, ordering_index}
use Rattle.std.proofs.lemmas.Cmp.{ranked}
use Rattle.std.proofs.lemmas.Bool.{eq-eqb, ne_eqb, cases_lt}
use Rattle.std.proofs.lemmas.Bool.Decides.{nat_tests}
use Rattle.std.proofs.lemmas.Option.{slice_get_cases}
use Rattle.uv_num.specs.Place.{at_place, changed}
use Rattle.uv_num.proofs.PlaceLaws.{at_place-cons}
use Rattle.uv_machine.specs.declared.object.Object.{Object}
use Rattle.uv_machine.specs.declared.object.Change.{Change}
use Rattle.uv_machine.specs.Objects.{has_id, on_object, with_change}
use Rattle.uv_machine.specs.Effects.{not_with_id}
use Rattle.uv_machine.specs.Reached.{IsIn, IsRising}
use Rattle.uv_machine.proofs.Graph.{find_rising, within_rising}
use Rattle.uv_store.specs.declared.mark.Mark.{Mark}
use Rattle.uv_store.specs.Marks.{marks_by}
use Rattle.uv_store.specs.Stored.{Rises, StandsAtPlace}

-- Ids rise.

rising_low : (low top : ℕ) (xs : List Object) → IsRising low xs top → (j : ℕ) (d : Object) → j < length xs → low ≤ (get_or xs j d).id
rising_low low top [] h j d lt = omega arith
rising_low low top (x ∷ xs) h zero d lt = h.0
rising_low low top (x ∷ xs) h (suc j) d lt = omega (arith, h.0, rising_low (x.id + 1) top xs h.1 j d (omega arith))

rising_le : (low top : ℕ) (xs : List Object) → IsRising low xs top → (i j : ℕ) (d : Object) → i ≤ j → j < length xs → (get_or xs i d).id ≤ (get_or xs j d).id
rising_le low top [] h i j d le lt = omega arith
rising_le low top (x ∷ xs) h zero zero d le lt = omega arith
rising_le low top (x ∷ xs) h zero (suc j) d le lt = omega (arith, rising_low (x.id + 1) top xs h.1 j d (omega arith))
rising_le low top (x ∷ xs) h (suc i) zero d le lt = omega arith
rising_le low top (x ∷ xs) h (suc i) (suc j) d le lt = rising_le (x.id + 1) top xs h.1 i j d (omega arith) (omega arith)

-- what passes nowhere isn't found
pub find_nowhere : {X : Type 0} (p : X → Bool) (xs : List X) → ((k : ℕ) (d : X) → k < length xs → p (get_or xs k d) ≡ false) → find p xs ≡ None
find_nowhere p [] h = refl
find_nowhere p (x ∷ xs) h = rw (h zero x (omega arith)) (find_nowhere p xs (λ k d lt. h (suc k) d (omega arith)))

-- the object at a place is in the list
pub in_by_place : {X : Type 0} (xs : List X) (i : ℕ) (x : X) → slice_get xs i ≡ Some x → IsIn x xs
in_by_place [] i x e = cc
in_by_place (y ∷ ys) zero x e = let same : x ≡ y = cc in inl same
in_by_place (y ∷ ys) (suc i) x e = inr (in_by_place ys i x e)

module _ (objects : List Object) (o : ℕ) (rises : Rises objects) where
  keys_rise : IsNonDecreasingBy (λ (x : Object). ordering_index (nat_cmp x.id o)) objects
  keys_rise i j d le lt =
      let ids : (get_or objects i d).id ≤ (get_or objects j d).id = rising_le 0 rises.top objects rises.rising i j d le lt in
      grind (arith, nat_tests)

  -- a search by id that found a place
  pub placed : (at : ℕ) → at < length objects → IsBinarySearchResult (λ (x : Object). nat_cmp x.id o) objects (Ok at) → StandsAtPlace objects o at
  placed at within found =
      ⊎_elim (λ (c : (x : Object) × (at < length objects) × (slice_get objects at ≡ Some x) × (get_or objects at x ≡ x)).
      record { item = c.0; at = c.2; id = ap (λ (v : Object). v.id) (sym c.3) ∙ ranked _ o _ (sym (found c.0)) })
      (λ c. absurd (omega (arith, c.0)))
      (slice_get_cases objects at).1

  -- a search by id that found none
  pub unplaced : (at : ℕ) → IsBinarySearchResult (λ (x : Object). nat_cmp x.id o) objects (Err at) → find (has_id o) objects ≡ None
  unplaced at parted =
      let parts = parted keys_rise in
      find_nowhere (has_id o) objects (λ k d lt. ⊎_elim
      (λ below. ne_eqb _ _ (λ same. let less : (get_or objects k d).id < o = ranked _ o _ (sym (parts.0 k d (omega arith) below)) in omega arith))
      (λ above. ne_eqb _ _ (λ same. let more : o < (get_or objects k d).id = ranked _ o _ (sym (parts.1 k d above lt)) in omega arith))
      (cases_lt k at))

  -- the object at the place is the one with the id
  pub placed_found : (at : ℕ) (p : StandsAtPlace objects o at) → find (has_id o) objects ≡ Some p.item
  placed_found at p = rw (← p.id) (find_rising 0 rises.top p.item objects (in_by_place objects at p.item p.at) rises.rising)

-- Changes at the place.

-- the items above an id are not those with it
others_stay : {Y : Type 0} (f g : Object → Y) (o low top : ℕ) (xs : List Object) → o < low → IsRising low xs top → map (λ x. if has_id o x then f x else g x) xs ≡ map g xs
others_stay f g o low top [] lt h = refl
others_stay f g o low top (x ∷ xs) lt h =
    rw (ne_eqb x.id o (λ same. omega (arith, h.0))) (ap (λ v. g x ∷ v) (others_stay f g o (x.id + 1) top xs (omega (arith, h.0)) h.1))

-- what none is, is changed nowhere
none_changed : {Y : Type 0} (f g : Object → Y) (o : ℕ) (xs : List Object) → find (has_id o) xs ≡ None → map (λ x. if has_id o x then f x else g x) xs ≡ map g xs
none_changed f g o [] e = refl
none_changed {Y} f g o (x ∷ xs) e =
    let by : (b : Bool) → cond b (Some x) (find (has_id o) xs) ≡ None → cond b (f x) (g x) ∷ map (λ y. if has_id o y then f y else g y) xs ≡ map g (x ∷ xs) = λ b. elim b as (λ c. cond c (Some x) (find (has_id o) xs) ≡ None → cond c (f x) (g x) ∷ map (λ y. if has_id o y then f y else g y) xs ≡ map g (x ∷ xs)) [ true ↦ λ h. cc | false ↦ λ h. ap (λ v. g x ∷ v) (none_changed f g o xs h) ] in
    by (has_id o x) e

-- a change at the place of an object, of what each object gives, is a change of what it gives
changed_placed : {Y : Type 0} (c : Y → Y) (f g : Object → Y) (o low top : ℕ) (xs : List Object) → ((x : Object) → x.id ≡ o → f x ≡ c (g x)) → IsRising low xs top → (i : ℕ) (x : Object) → slice_get xs i ≡ Some x → x.id ≡ o → at_place (map g xs) i c ≡ map (λ y. if has_id o y then f y else g y) xs
changed_placed c f g o low top [] gives h i x e same = cc
changed_placed c f g o low top (y ∷ ys) gives h zero x e same =
    let is : y ≡ x = cc in
    let own : y.id ≡ o = ap (λ (v : Object). v.id) is ∙ same in
    rw (eq-eqb y.id o own) (ap (λ v. v ∷ map g ys) (sym (gives y own)) ∙ ap (λ v. f y ∷ v) (sym (others_stay f g o (y.id + 1) top ys (omega arith) h.1)))
changed_placed c f g o low top (y ∷ ys) gives h (suc i) x e same =
    let k : IsIn x ys = in_by_place ys i x e in
    let more = within_rising (y.id + 1) top x ys k h.1 in
    rw (ne_eqb y.id o (λ own. omega (arith, more.0))) (at_place-cons (g y) (map g ys) i c ∙ ap (λ v. g y ∷ v) (changed_placed c f g o (y.id + 1) top ys gives h.1 i x e same))

map_id : {X : Type 0} (xs : List X) → map (λ x. x) xs ≡ xs
map_id [] = refl
map_id (x ∷ xs) = ap (λ v. x ∷ v) (map_id xs)

-- the object with an id changed
pub turned_object : (objects : List Object) (o at : ℕ) (change : Change) → Rises objects → StandsAtPlace objects o at → at_place objects at (with_change change) ≡ map (on_object o change) objects
turned_object objects o at change rises p =
    ap (λ v. at_place v at (with_change change)) (sym (map_id objects))
    ∙ changed_placed (with_change change) (with_change change) (λ x. x) o 0 rises.top objects (λ x e. refl) rises.rising at p.item p.at p.id

pub no_object : (objects : List Object) (o : ℕ) (change : Change) → find (has_id o) objects ≡ None → map (on_object o change) objects ≡ objects
no_object objects o change e = none_changed (with_change change) (λ x. x) o objects e ∙ map_id objects

-- the mark of the object with an id changed
pub turned_mark : (objects : List Object) (g : ℕ → Mark) (c : Mark → Mark) (o at : ℕ) → Rises objects → StandsAtPlace objects o at → at_place (marks_by g objects) at c ≡ marks_by (changed g o (c (g o))) objects
turned_mark objects g c o at rises p =
    changed_placed c (λ x. c (g o)) (λ x. g x.id) o 0 rises.top objects (λ x e. ap (λ v. c (g v)) (sym e)) rises.rising at p.item p.at p.id

pub no_mark : (objects : List Object) (g : ℕ → Mark) (value : Mark) (o : ℕ) → find (has_id o) objects ≡ None → marks_by (changed g o value) objects ≡ marks_by g objects
no_mark objects g value o e = none_changed (λ x. value) (λ x. g x.id) o objects e

-- An object taken out.

filter_above : (o low top : ℕ) (xs : List Object) → o < low → IsRising low xs top → filter (not_with_id o) xs ≡ xs
filter_above o low top [] lt h = refl
filter_above o low top (x ∷ xs) lt h =
    rw (ne_eqb x.id o (λ same. omega (arith, h.0))) (ap (λ v. x ∷ v) (filter_above o (x.id + 1) top xs (omega (arith, h.0)) h.1))

removed_placed : (o low top : ℕ) (xs : List Object) → IsRising low xs top → (i : ℕ) (x : Object) → slice_get xs i ≡ Some x → x.id ≡ o → remove xs i ≡ filter (not_with_id o) xs
removed_placed o low top [] h i x e same = cc
removed_placed o low top (y ∷ ys) h zero x e same =
    let is : y ≡ x = cc in
    let own : y.id ≡ o = ap (λ (v : Object). v.id) is ∙ same in
    rw (eq-eqb y.id o own) (sym (filter_above o (y.id + 1) top ys (omega arith) h.1))
removed_placed o low top (y ∷ ys) h (suc i) x e same =
    let more = within_rising (y.id + 1) top x ys (in_by_place ys i x e) h.1 in
    rw (ne_eqb y.id o (λ own. omega (arith, more.0))) (ap (λ v. y ∷ v) (removed_placed o (y.id + 1) top ys h.1 i x e same))

pub map_removed : {X Y : Type 0} (g : X → Y) (xs : List X) (i : ℕ) → map g (remove xs i) ≡ remove (map g xs) i
map_removed g [] zero = refl
map_removed g [] (suc i) = refl
map_removed g (x ∷ xs) zero = refl
map_removed g (x ∷ xs) (suc i) = ap (λ v. g x ∷ v) (map_removed g xs i)

none_filtered : (o : ℕ) (xs : List Object) → find (has_id o) xs ≡ None → filter (not_with_id o) xs ≡ xs
none_filtered o [] e = refl
none_filtered o (x ∷ xs) e =
    let by : (b : Bool) → cond b (Some x) (find (has_id o) xs) ≡ None → cond (not b) (x ∷ filter (not_with_id o) xs) (filter (not_with_id o) xs) ≡ x ∷ xs = λ b. elim b as (λ c. cond c (Some x) (find (has_id o) xs) ≡ None → cond (not c) (x ∷ filter (not_with_id o) xs) (filter (not_with_id o) xs) ≡ x ∷ xs) [ true ↦ λ h. cc | false ↦ λ h. ap (λ v. x ∷ v) (none_filtered o xs h) ] in
    by (has_id o x) e

pub taken_object : (objects : List Object) (o at : ℕ) → Rises objects → StandsAtPlace objects o at → remove objects at ≡ filter (not_with_id o) objects
taken_object objects o at rises p = removed_placed o 0 rises.top objects rises.rising at p.item p.at p.id

pub taken_mark : (objects : List Object) (g : ℕ → Mark) (o at : ℕ) → Rises objects → StandsAtPlace objects o at → remove (marks_by g objects) at ≡ marks_by g (filter (not_with_id o) objects)
taken_mark objects g o at rises p = sym (map_removed (λ x. g x.id) objects at) ∙ ap (λ v. marks_by g v) (taken_object objects o at rises p)

pub none_taken : (objects : List Object) (o : ℕ) → find (has_id o) objects ≡ None → filter (not_with_id o) objects ≡ objects
none_taken objects o e = none_filtered o objects e
