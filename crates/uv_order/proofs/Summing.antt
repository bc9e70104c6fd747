-- Sums over seats and over cells.
use Rattle.std.proofs.Common.{◌≡◌, ◌≢◌, ℕ, zero, suc, ◌+◌, ◌<◌, ◌≤◌, cond, subst, refl, ap, ◌∙◌, eq-eqb, ne_eqb, arith, List, [], ◌∷◌}
use mathlib.Core.Logic.{dite}
use native.Mathlib.Decide.{ℕ_discrete}
use Rattle.std.specs.Prelude.{sum_by}
use Rattle.std.proofs.lemmas.List.Sums.{sum_by-cons}
use Rattle.uv_order.specs.declared.signed.Signed.{Signed}
use Rattle.uv_order.specs.Signed.{entries, those}
use Rattle.uv_order.specs.Sums.{sum_below, SumsAdd, SumsTurn}

module _ {E : Type 0} (f : E → ℕ) (y : Signed E) (ys : List (Signed E)) where
  abbrev more : ℕ → ℕ
  more k = sum_by f (those k (y ∷ ys))

  abbrev less : ℕ → ℕ
  less k = sum_by f (those k ys)

  at_own : more y.by ≡ f y.entry + less y.by
  at_own = ap (λ t. sum_by f (cond t (y.entry ∷ those y.by ys) (those y.by ys))) (eq-eqb y.by y.by refl) ∙ sum_by-cons f y.entry (those y.by ys)

  at_other : (k : ℕ) → y.by ≢ k → more k ≡ less k
  at_other k ne = ap (λ t. sum_by f (cond t (y.entry ∷ those k ys) (those k ys))) (ne_eqb y.by k ne)

  sums_same : (n : ℕ) → n ≤ y.by → sum_below more n ≡ sum_below less n
  sums_same zero le = refl
  sums_same (suc n) le = let o = at_other n (λ e. omega arith) in let r = sums_same n (omega arith) in omega arith

  sums_more : (n : ℕ) → y.by < n → sum_below more n ≡ f y.entry + sum_below less n
  sums_more zero lt = absurd (omega arith)
  sums_more (suc n) lt = dite (ℕ_discrete y.by n)
      (λ e. let o : more n ≡ f y.entry + less n = subst (λ k. more k ≡ f y.entry + less k) e at_own in let r = sums_same n (omega arith) in omega arith)
      (λ ne. let o = at_other n ne in let r = sums_more n (omega arith) in omega arith)

zeros : (n : ℕ) → 0 ≡ sum_below (λ k. 0) n
zeros zero = refl
zeros (suc n) = let r = zeros n in omega arith

pub sums_add : (E : Type 0) → SumsAdd E
sums_add E f [] n below = zeros n
sums_add E f (y ∷ ys) n below =
    let r = sums_add E f ys n below.1 in let m = sums_more f y ys n below.0 in let c = sum_by-cons f y.entry (entries ys) in omega arith

sums_split : (g h : ℕ → ℕ) (m : ℕ) → sum_below (λ j. g j + h j) m ≡ sum_below g m + sum_below h m
sums_split g h zero = refl
sums_split g h (suc m) = let r = sums_split g h m in omega arith

pub sums_turn : SumsTurn
sums_turn f zero m = zeros m
sums_turn f (suc n) m = let r = sums_turn f n m in let s = sums_split (λ j. f n j) (λ j. sum_below (λ i. f i j) n) m in omega arith
