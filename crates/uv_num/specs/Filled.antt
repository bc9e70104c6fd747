-- A buffer of bytes as its callers see it.
use Rattle.std.specs.Prelude.{ℕ, List}

-- the bytes, and how many more are taken without memory
pub record Filled : Type 0 where
  pub bytes : List ℕ
  pub spare : ℕ
