-- Where a seat's own entries stand in a log.
use Rattle.std.specs.Prelude.{◌≡◌, ℕ, List, ◌∷◌, ◌++◌, nat_eq}
use Rattle.uv_num.specs.Place.{places_from}
use Rattle.uv_order.specs.declared.signed.Signed.{Signed}
use Rattle.uv_order.specs.Signed.{those}

-- the places of n's entries, counted from k
abbrev pub where_is : {E : Type 0} → ℕ → ℕ → List (Signed E) → List ℕ
where_is {E} n k log = places_from k (λ (y : Signed E). nat_eq y.by n) log

-- an entry of n in the log, before which n's own are these
pub record StandsIn {E : Type 0} (n : ℕ) (own : List E) (x : E) (log : List (Signed E)) : Type 0 where
  pub before : List (Signed E)
  pub behind : List (Signed E)
  pub stands : log ≡ before ++ record { by = n; entry = x } ∷ behind
  pub own_before : those n before ≡ own

abbrev pub OwnHasPlace : Type 0 → Type 0
OwnHasPlace E = (n : ℕ) (before behind : List E) (x : E) (log : List (Signed E)) → those n log ≡ before ++ x ∷ behind → StandsIn n before x log
