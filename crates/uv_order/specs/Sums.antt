-- Sums over seats, and over cells.
use Rattle.std.specs.Prelude.{◌≡◌, ℕ, suc, zero, ◌+◌, List, sum_by}
use Rattle.uv_order.specs.declared.signed.Signed.{Signed}
use Rattle.uv_order.specs.Signed.{entries, those, AreOfSeats}

-- the sum of f over the numbers below n
abbrev pub sum_below : (ℕ → ℕ) → ℕ → ℕ
sum_below f zero = 0
sum_below f (suc n) = f n + sum_below f n

-- what each seat's own entries weigh adds up to what the log weighs
abbrev pub SumsAdd : Type 0 → Type 0
SumsAdd E = (weight : E → ℕ) (log : List (Signed E)) (seats : ℕ) → AreOfSeats seats log → sum_by weight (entries log) ≡ sum_below (λ n. sum_by weight (those n log)) seats

abbrev pub SumsTurn : Type 0
SumsTurn = (f : ℕ → ℕ → ℕ) (n m : ℕ) → sum_below (λ i. sum_below (λ j. f i j) m) n ≡ sum_below (λ j. sum_below (λ i. f i j) n) m
