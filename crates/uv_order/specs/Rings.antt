-- Chains of takings of one list: of a ring, from which the first leave, and of a list that only grows.
use Rattle.std.specs.Prelude.{◌≡◌, List, ◌++◌, flat_map}
use Rattle.uv_num.specs.Each.{Each}
use Rattle.uv_order.specs.Takings.{IsChain}

module _ {X C : Type 0} where
  -- what was polled and then what was left is what was entered with and then what was pushed
  abbrev pub IsEven : (X → List C) → (X → List C) → (X → List C) → (X → List C) → X → Type 0
  IsEven entered left polled pushed x = polled x ++ left x ≡ entered x ++ pushed x

  -- what was left is what was entered with and then what was added
  abbrev pub Grows : (X → List C) → (X → List C) → (X → List C) → X → Type 0
  Grows entered left added x = left x ≡ entered x ++ added x

abbrev pub FirstInFirstOut : Type 0 → Type 0 → Type 0
FirstInFirstOut X C = (entered left polled pushed : X → List C) (p : List C) (xs : List X) (o : List C) → Each (IsEven entered left polled pushed) xs → IsChain entered left p xs o
    → flat_map polled xs ++ o ≡ p ++ flat_map pushed xs

abbrev pub WholeIsAdded : Type 0 → Type 0 → Type 0
WholeIsAdded X C = (entered left added : X → List C) (p : List C) (xs : List X) (o : List C) → Each (Grows entered left added) xs → IsChain entered left p xs o → o ≡ p ++ flat_map added xs
