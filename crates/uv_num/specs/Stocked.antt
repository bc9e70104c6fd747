-- A stock as its callers see it.
use Rattle.std.specs.Prelude.{ℕ, List}

-- the items, and how many more are taken without memory
pub record Stocked (T : Type 0) : Type 0 where
  pub items : List T
  pub room : ℕ
