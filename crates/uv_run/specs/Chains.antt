-- Steps one after the other, over the items of a list.
use Rattle.std.specs.Prelude.{◌≡◌, List, [], ◌∷◌}

pub record Links {S X : Type 0} (R : S → X → S → Type 0) (s : S) (x : X) (Others : S → Type 0) : Type 0 where
  pub mid : S
  pub link : R s x mid
  pub others : Others mid

-- each item leads from one to the next
abbrev pub Chain : {S X : Type 0} → (S → X → S → Type 0) → S → List X → S → Type 0
Chain R s [] s' = s' ≡ s
Chain R s (x ∷ xs) s' = Links R s x (λ mid. Chain R mid xs s')
