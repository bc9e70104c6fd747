-- What contracts see of the adapters over std's readers and writers.
use Rattle.std.specs.Prelude.{ℕ}

-- a reader or a writer, and how many faults it had
pub record Counted (D : Type 0) : Type 0 where
  pub inner : D
  pub faults : ℕ
