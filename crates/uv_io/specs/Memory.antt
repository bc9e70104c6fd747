-- What contracts see of the sources and sinks in memory.
use Rattle.std.specs.Prelude.{ℕ, List}

-- a source in memory: the bytes left, the numbers of the calls that fail, the calls so far and the faults among them
pub record Supplied : Type 0 where
  pub left : List ℕ
  pub failing : List ℕ
  pub calls : ℕ
  pub faults : ℕ

-- a sink in memory: the bytes written, the bytes that it has room for in all, and how many faults there were
pub record Stored : Type 0 where
  pub bytes : List ℕ
  pub room : ℕ
  pub faults : ℕ

-- the same for a sink that fails at the calls with these numbers
pub record Written : Type 0 where
  pub bytes : List ℕ
  pub room : ℕ
  pub failing : List ℕ
  pub calls : ℕ
  pub faults : ℕ

-- bytes with an end to their room
pub record Bounded : Type 0 where
  pub bytes : List ℕ
  pub room : ℕ
