-- Sums over a list with one item set.
use Rattle.std.proofs.Common.{◌≡◌, ◌+◌, ◌≤◌, ℕ, zero, suc, List, [], ◌∷◌, Option, None, Some, length, refl, subst, arith, slice_set}
use Rattle.std.specs.Prelude.{slice_get, sum_by, option_map}
use Rattle.uv_num.specs.Place.{changed_item}
use Rattle.uv_machine.proofs.Sums.{worth, sum_by-at_place_worth}

pub count_set : {X : Type 0} (f : X → ℕ) (xs : List X) (i : ℕ) (x y : X) → slice_get xs i ≡ Some x → sum_by f (slice_set xs i y) + f x ≡ sum_by f xs + f y
count_set {X} f xs i x y e =
    let P : Option X → Type 0 = λ o. sum_by f (changed_item xs i (λ _. y) o) + worth f o ≡ sum_by f xs + worth f (option_map (λ _. y) o) in
    subst P e (sum_by-at_place_worth f (λ _. y) xs i)

pub none_past : {X : Type 0} (xs : List X) (i : ℕ) → length xs ≤ i → slice_get xs i ≡ None
none_past [] i h = refl
none_past (x ∷ xs) zero h = absurd (omega (arith, h))
none_past (x ∷ xs) (suc i) h = none_past xs i (omega (arith, h))
