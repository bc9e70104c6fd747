-- Logs whose entries are signed by the seats that made them.
use Rattle.std.specs.Prelude.{◌≡◌, ◌⊎◌, ℕ, ◌<◌, List, [], ◌∷◌, cond, nat_eq, map}
use Rattle.uv_num.specs.Each.{Each}
use Rattle.uv_order.specs.declared.signed.Signed.{Signed}
use Rattle.uv_order.specs.declared.signed.TheConstants.{SEATS}

-- the number that signs what stood in a log before any turn; seats have smaller ones
abbrev pub nobody : ℕ
nobody = SEATS

module _ {E : Type 0} where
  -- the log without its signatures
  abbrev pub entries : List (Signed E) → List E
  entries log = map (λ (y : Signed E). y.entry) log

  -- these entries, each signed by n
  abbrev pub sign : ℕ → List E → List (Signed E)
  sign n xs = map (λ (x : E). record { by = n; entry = x }) xs

  -- the entries that n signed
  abbrev pub those : ℕ → List (Signed E) → List E
  those n [] = []
  those n (y ∷ ys) = cond (nat_eq y.by n) (y.entry ∷ those n ys) (those n ys)

  -- n signed none of them
  abbrev pub Silent : ℕ → List (Signed E) → Type 0
  Silent n log = those n log ≡ []

  -- each author is a seat below n, or nobody
  abbrev pub AreBelow : ℕ → List (Signed E) → Type 0
  AreBelow n log = Each (λ (y : Signed E). (y.by < n) ⊎ (y.by ≡ nobody)) log

  -- each author is a seat below n
  abbrev pub AreOfSeats : ℕ → List (Signed E) → Type 0
  AreOfSeats n log = Each (λ (y : Signed E). y.by < n) log
