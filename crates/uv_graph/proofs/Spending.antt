-- What is set aside, by client.
use Rattle.std.proofs.Common.{◌≡◌, ℕ, zero, suc, ◌+◌, ◌-◌, ◌<◌, List, [], ◌∷◌, Option, Some, None, ap, sym, ◌∙◌, arith}
use Rattle.std.specs.Prelude.{sum, slice_get, unwrap_or, option_map}
use Rattle.std.proofs.lemmas.List.Sums.{sum_by-cons}
use Rattle.uv_num.specs.Place.{at_place}
use Rattle.uv_num.proofs.PlaceLaws.{at_place-cons, slice_get-at_place_same}
use Rattle.uv_graph.specs.Kept.{one_less}

sum-cons : (x : ℕ) (xs : List ℕ) → sum (x ∷ xs) ≡ x + sum xs
sum-cons x xs = sum_by-cons (λ v. v) x xs

-- one less at a place makes one less in all
pub sum-less : (xs : List ℕ) (at : ℕ) → 0 < unwrap_or (slice_get xs at) 0 → sum (at_place xs at one_less) + 1 ≡ sum xs
sum-less [] at some = absurd (omega (arith, some))
sum-less (x ∷ xs) zero some =
    let a : sum ((x - 1) ∷ xs) ≡ (x - 1) + sum xs = sum-cons (x - 1) xs in
    let b : sum (x ∷ xs) ≡ x + sum xs = sum-cons x xs in
    omega (arith, a, b, some)
sum-less (x ∷ xs) (suc at) some =
    let a : sum (x ∷ at_place xs at one_less) ≡ x + sum (at_place xs at one_less) = sum-cons x (at_place xs at one_less) in
    let b : sum (x ∷ xs) ≡ x + sum xs = sum-cons x xs in
    let c : sum (at_place (x ∷ xs) (suc at) one_less) ≡ sum (x ∷ at_place xs at one_less) = ap sum (at_place-cons x xs at one_less) in
    let less = sum-less xs at some in
    omega (arith, a, b, c, less)

less_by : (slot : Option ℕ) → 0 < unwrap_or slot 0 → unwrap_or slot 0 ≡ unwrap_or (option_map one_less slot) 0 + 1
less_by None some = absurd (omega (arith, some))
less_by (Some n) some = omega (arith, some)

pub less_one : (xs : List ℕ) (at : ℕ) → 0 < unwrap_or (slice_get xs at) 0 → unwrap_or (slice_get xs at) 0 ≡ unwrap_or (slice_get (at_place xs at one_less) at) 0 + 1
less_one xs at some = less_by (slice_get xs at) some ∙ ap (λ v. unwrap_or v 0 + 1) (sym (slice_get-at_place_same xs at one_less))
