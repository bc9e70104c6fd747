-- Entries that name a seat.
use Rattle.std.specs.Prelude.{◌≡◌, ℕ, Option, Some, None, List, Bool, false, nat_eq, filter}
use Rattle.uv_num.specs.Each.{Each}
use Rattle.uv_order.specs.declared.signed.Signed.{Signed}

-- the seat named, if one is, is n
abbrev pub is_for : ℕ → Option ℕ → Bool
is_for n None = false
is_for n (Some k) = nat_eq k n

module _ {E : Type 0} (names : E → Option ℕ) where
  -- an entry that names a seat is signed by it
  abbrev pub AreNamed : List (Signed E) → Type 0
  AreNamed log = Each (λ (y : Signed E). (n : ℕ) → names y.entry ≡ Some n → y.by ≡ n) log

  -- an entry that names a seat names n
  abbrev pub NameOnly : ℕ → List E → Type 0
  NameOnly n xs = Each (λ (x : E). (k : ℕ) → names x ≡ Some k → k ≡ n) xs

  abbrev pub NameNobody : List E → Type 0
  NameNobody xs = Each (λ (x : E). names x ≡ None) xs

  -- the entries that name n
  abbrev pub picks : ℕ → List E → List E
  picks n xs = filter (λ (x : E). is_for n (names x)) xs
