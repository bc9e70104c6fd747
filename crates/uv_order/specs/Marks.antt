-- Whose each item of a list is that many seats added to.
use Rattle.std.specs.Prelude.{◌≡◌, ℕ, suc, List, [], ◌∷◌, map, flat_map, filter, cond, nat_eq, Bool}
use Rattle.uv_order.specs.declared.signed.Signed.{Signed}
use Rattle.uv_order.specs.Signed.{entries, those}

-- the items that have this mark
abbrev pub picked : {C : Type 0} → ℕ → List C → List ℕ → List C
picked c [] ms = []
picked c (a ∷ items) [] = []
picked c (a ∷ items) (m ∷ ms) = cond (nat_eq m c) (a ∷ picked c items ms) (picked c items ms)

module _ {X C : Type 0} (own : C → Bool) (added : X → List C) where
  -- the mark of an item that seat n added: its number and one, or 0 where the item is not the seat's own
  abbrev pub mark : ℕ → C → ℕ
  mark n a = cond (own a) (suc n) 0

  abbrev pub marks : List (Signed X) → List ℕ
  marks log = flat_map (λ (y : Signed X). map (mark y.by) (added y.entry)) log

abbrev pub PickedAreOwn : Type 0 → Type 0 → Type 0
PickedAreOwn X C = (own : C → Bool) (added : X → List C) (n : ℕ) (log : List (Signed X)) → picked (suc n) (flat_map added (entries log)) (marks own added log) ≡ filter own (flat_map added (those n log))
