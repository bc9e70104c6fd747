-- What a seat has seen of a log.
use Rattle.std.specs.Prelude.{◌≡◌, ℕ, List, ◌++◌, length, cond, nat_lt}
use Rattle.uv_order.specs.declared.signed.Signed.{Signed}
use Rattle.uv_order.specs.Signed.{Silent}

-- the longer of two lists
abbrev pub longer : {E : Type 0} → List E → List E → List E
longer xs ys = cond (nat_lt (length xs) (length ys)) ys xs

-- the log begins with what n has seen, and n signed nothing of the rest
pub record Quiet {E : Type 0} (n : ℕ) (log seen : List (Signed E)) : Type 0 where
  pub rest : List (Signed E)
  pub goes_on : log ≡ seen ++ rest
  pub silent : Silent n rest
