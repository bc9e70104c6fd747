-- Which answers of the outside are faults, and how faults are counted.
use Rattle.std.specs.Prelude.{◌≡◌, ℕ, ◌+◌, ◌-◌, ◌^◌, ◌<◌, ◌≤◌, ◌==◌, ◌&&◌, nat_lt, if◌then◌else◌, min, List, length, OnErr, Result, Ok, Err}

-- the count behind this one: one more, until its last value
abbrev pub next_count : ℕ → ℕ
next_count count = min (count + 1) (2 ^ 64 - 1)

-- the count rose, or stands at its last value
abbrev pub Rose : ℕ → ℕ → Type 0
Rose before now = next_count before ≤ now

-- the count of faults never falls, and a call answers an error only where it rose
pub record HasCause {T E : Type 0} (before now : ℕ) (result : Result T E) : Type 0 where
  pub later : before ≤ now
  pub failed : OnErr result (Rose before now)

-- a write took nothing of a piece that isn't empty
abbrev pub TookNothing : {E : Type 0} → List ℕ → Result ℕ E → Type 0
TookNothing piece result = (0 < length piece) × (result ≡ Ok 0)

-- the same for a write, where to take nothing of a piece that isn't empty is a fault too
pub record HasWriteCause {E : Type 0} (before now : ℕ) (piece : List ℕ) (result : Result ℕ E) : Type 0 where
  pub later : before ≤ now
  pub failed : OnErr result (Rose before now)
  pub nothing : TookNothing piece result → Rose before now

-- the count of faults behind a read, of which each error is one
abbrev pub read_faults : {E : Type 0} → ℕ → Result ℕ E → ℕ
read_faults count (Ok taken) = count
read_faults count (Err why) = next_count count

-- the count of faults behind a write of a piece of this length
abbrev pub write_faults : {E : Type 0} → ℕ → ℕ → Result ℕ E → ℕ
write_faults count len (Ok taken) = if taken == 0 && nat_lt 0 len then next_count count else count
write_faults count len (Err why) = next_count count
