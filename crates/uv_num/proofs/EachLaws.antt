-- Laws of what is true of each item of a list.
use Rattle.std.proofs.Common.{◌≡◌, ℕ, zero, suc, Bool, true, false, List, [], ◌∷◌, ◌++◌, Some, take, drop, map, replicate, refl, ap, sym, ◌∙◌, subst}
use Rattle.std.specs.Prelude.{slice_get, slice_set, filter, find, remove, if◌then◌else◌}
use Rattle.uv_num.specs.Each.{Each}
use Rattle.uv_num.specs.Place.{at_place}
use Rattle.uv_num.specs.Prefix.{IsPrefix}
use Rattle.uv_num.proofs.PlaceLaws.{at_place-cons}

-- a weaker fact of each item
pub Each_weaken : {X : Type 0} (P Q : X → Type 0) → ((x : X) → P x → Q x) → (xs : List X) → Each P xs → Each Q xs
Each_weaken P Q f [] each = tt
Each_weaken P Q f (x ∷ xs) each = (f x each.0, Each_weaken P Q f xs each.1)

-- two facts of each item
pub Each_both : {X : Type 0} (P Q : X → Type 0) (xs : List X) → Each P xs → Each Q xs → Each (λ x. P x × Q x) xs
Each_both P Q [] one other = tt
Each_both P Q (x ∷ xs) one other = ((one.0, other.0), Each_both P Q xs one.1 other.1)

-- one list behind another
pub Each-append : {X : Type 0} (P : X → Type 0) (xs ys : List X) → Each P xs → Each P ys → Each P (xs ++ ys)
Each-append P [] ys front back = back
Each-append P (x ∷ xs) ys front back = (front.0, Each-append P xs ys front.1 back)

-- one item more
pub Each-push : {X : Type 0} (P : X → Type 0) (xs : List X) (y : X) → Each P xs → P y → Each P (xs ++ y ∷ [])
Each-push P xs y each one = Each-append P xs (y ∷ []) each (one, tt)

-- the front of a list
pub Each_front : {X : Type 0} (P : X → Type 0) (xs ys : List X) → Each P (xs ++ ys) → Each P xs
Each_front P [] ys each = tt
Each_front P (x ∷ xs) ys each = (each.0, Each_front P xs ys each.1)

-- the back of a list
pub Each_back : {X : Type 0} (P : X → Type 0) (xs ys : List X) → Each P (xs ++ ys) → Each P ys
Each_back P [] ys each = each
Each_back P (x ∷ xs) ys each = Each_back P xs ys each.1

-- a prefix of a list
pub Each-IsPrefix : {X : Type 0} (P : X → Type 0) (xs ys : List X) → IsPrefix xs ys → Each P ys → Each P xs
Each-IsPrefix {X} P xs ys p each =
    let Q : List X → Type 0 = λ v. Each P v in
    Each_front P xs p.rest (subst Q p.goes_on each)

-- what a function makes of each item
pub Each-map : {X Y : Type 0} (P : Y → Type 0) (f : X → Y) (xs : List X) → Each (λ x. P (f x)) xs → Each P (map f xs)
Each-map P f [] each = tt
Each-map P f (x ∷ xs) each = (each.0, Each-map P f xs each.1)

-- the items that pass a test, which each of them does
pub Each-filter : {X : Type 0} (P : X → Type 0) (p : X → Bool) (xs : List X) → Each P xs → Each P (filter p xs)
Each-filter P p [] each = tt
Each-filter {X} P p (x ∷ xs) each =
    let kept : Each P (filter p xs) = Each-filter P p xs each.1 in
    elim (p x) as (λ b. Each P (if b then x ∷ filter p xs else filter p xs)) [ true ↦ (each.0, kept) | false ↦ kept ]

-- one more item at the front, kept where it passes
kept_passes : {X : Type 0} (p : X → Bool) (b : Bool) (x : X) (kept : List X) → p x ≡ b → Each (λ y. p y ≡ true) kept → Each (λ y. p y ≡ true) (if b then x ∷ kept else kept)
kept_passes p true x kept is each = (is, each)
kept_passes p false x kept is each = each

-- each item that a filter keeps passes its test
pub Each-filter_passes : {X : Type 0} (p : X → Bool) (xs : List X) → Each (λ x. p x ≡ true) (filter p xs)
Each-filter_passes p [] = tt
Each-filter_passes p (x ∷ xs) = kept_passes p (p x) x (filter p xs) refl (Each-filter_passes p xs)

-- the item at a place
pub Each_item : {X : Type 0} (P : X → Type 0) (xs : List X) (at : ℕ) (x : X) → slice_get xs at ≡ Some x → Each P xs → P x
Each_item P [] at x is each = cc
Each_item {X} P (y ∷ xs) zero x is each = let same : y ≡ x = cc in let Q : X → Type 0 = λ v. P v in subst Q same each.0
Each_item P (y ∷ xs) (suc at) x is each = Each_item P xs at x is each.1

-- the front item where it passes, and else one behind it
found_at : {X : Type 0} (P : X → Type 0) (p : X → Bool) (b : Bool) (xs : List X) (x y : X) → (if b then Some y else find p xs) ≡ Some x → P y → (find p xs ≡ Some x → P x) → P x
found_at {X} P p true xs x y is here later = let same : y ≡ x = cc in let Q : X → Type 0 = λ v. P v in subst Q same here
found_at P p false xs x y is here later = later is

-- the front item passes where it is the one found, and else one behind it is
passes_at : {X : Type 0} (p : X → Bool) (b : Bool) (xs : List X) (x y : X) → p y ≡ b → (if b then Some y else find p xs) ≡ Some x → (find p xs ≡ Some x → p x ≡ true) → p x ≡ true
passes_at p true xs x y here is later = let same : y ≡ x = cc in ap p (sym same) ∙ here
passes_at p false xs x y here is later = later is

-- the first item that passes a test
pub Each_found : {X : Type 0} (P : X → Type 0) (p : X → Bool) (xs : List X) (x : X) → find p xs ≡ Some x → Each P xs → P x
Each_found P p [] x is each = cc
Each_found P p (y ∷ xs) x is each = found_at P p (p y) xs x y is each.0 (λ later. Each_found P p xs x later each.1)

-- the first item that passes a test passes it
pub find_passes : {X : Type 0} (p : X → Bool) (xs : List X) (x : X) → find p xs ≡ Some x → p x ≡ true
find_passes p [] x is = cc
find_passes p (y ∷ xs) x is = passes_at p (p y) xs x y refl is (λ later. find_passes p xs x later)

-- a fact of each place is one of each item
pub Each_from_items : {X : Type 0} (P : X → Type 0) (xs : List X) → ((at : ℕ) (x : X) → slice_get xs at ≡ Some x → P x) → Each P xs
Each_from_items P [] at_each = tt
Each_from_items P (x ∷ xs) at_each = (at_each 0 x refl, Each_from_items P xs (λ at y is. at_each (suc at) y is))

-- one item changed, where the change keeps the fact
pub Each-at_place : {X : Type 0} (P : X → Type 0) (xs : List X) (at : ℕ) (f : X → X) → ((x : X) → slice_get xs at ≡ Some x → P x → P (f x)) → Each P xs → Each P (at_place xs at f)
Each-at_place P [] at f keeps each = tt
Each-at_place P (x ∷ xs) zero f keeps each = (keeps x refl each.0, each.1)
Each-at_place {X} P (x ∷ xs) (suc at) f keeps each =
    let Q : List X → Type 0 = λ v. Each P v in
    subst Q (sym (at_place-cons x xs at f)) (each.0, Each-at_place P xs at f keeps each.1)

-- one item written
pub Each-slice_set : {X : Type 0} (P : X → Type 0) (xs : List X) (at : ℕ) (y : X) → P y → Each P xs → Each P (slice_set xs at y)
Each-slice_set P [] at y one each = tt
Each-slice_set P (x ∷ xs) zero y one each = (one, each.1)
Each-slice_set P (x ∷ xs) (suc at) y one each = (each.0, Each-slice_set P xs at y one each.1)

-- the first so many items
pub Each-take : {X : Type 0} (P : X → Type 0) (n : ℕ) (xs : List X) → Each P xs → Each P (take n xs)
Each-take P zero xs each = tt
Each-take P (suc n) [] each = tt
Each-take P (suc n) (x ∷ xs) each = (each.0, Each-take P n xs each.1)

-- what is left behind so many items
pub Each-drop : {X : Type 0} (P : X → Type 0) (n : ℕ) (xs : List X) → Each P xs → Each P (drop n xs)
Each-drop P zero xs each = each
Each-drop P (suc n) [] each = tt
Each-drop P (suc n) (x ∷ xs) each = Each-drop P n xs each.1

-- one item taken out
pub Each-remove : {X : Type 0} (P : X → Type 0) (xs : List X) (at : ℕ) → Each P xs → Each P (remove xs at)
Each-remove P xs at each =
    Each-append P (take at xs) (drop (suc at) xs) (Each-take P at xs each) (Each-drop P (suc at) xs each)

-- one item so many times
pub Each-replicate : {X : Type 0} (P : X → Type 0) (n : ℕ) (x : X) → P x → Each P (replicate n x)
Each-replicate P zero x one = tt
Each-replicate P (suc n) x one = (one, Each-replicate P n x one)
