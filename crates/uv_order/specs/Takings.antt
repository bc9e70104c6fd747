-- Takings of a cell: those of one generation, and how one leads to the next.
use Rattle.std.specs.Prelude.{◌≡◌, ℕ, ◌≤◌, List, [], ◌∷◌, cond, nat_eq}
use Rattle.uv_num.specs.Each.{Each}
use Rattle.uv_order.specs.declared.signed.Signed.{Signed}
use Rattle.uv_order.specs.declared.taken.Taken.{Taken}

-- each entered with what the one before it left, the first with p; the last left o
module _ {X V : Type 0} (entered left : X → V) where
  abbrev pub IsChain : V → List X → V → Type 0
  IsChain p [] o = o ≡ p
  IsChain p (x ∷ xs) o = (entered x ≡ p) × IsChain (left x) xs o

module _ {T : Type 0} where
  -- the takings of generation g, in order
  abbrev pub run : ℕ → List (Signed (Taken T)) → List (Taken T)
  run g [] = []
  run g (y ∷ ys) = cond (nat_eq y.entry.generation g) (y.entry ∷ run g ys) (run g ys)

  -- the takings lead from p to o
  abbrev pub Chains : T → List (Taken T) → T → Type 0
  Chains = IsChain (λ (t : Taken T). t.entered) (λ (t : Taken T). t.left)

  -- no taking is of a later generation
  abbrev pub AreYoung : ℕ → List (Signed (Taken T)) → Type 0
  AreYoung g log = Each (λ (y : Signed (Taken T)). y.entry.generation ≤ g) log
