-- Tables of a file's handle numbers, in which those that are taken are marked.
use Rattle.std.specs.Prelude.{ℕ, Bool, false, ◌≡◌, ◌<◌, ◌||◌, List, slice_get, unwrap_or}
use Rattle.uv_num.specs.declared.limits.TheConstants.{HANDLES}

-- the number is marked
abbrev pub is_marked : List Bool → ℕ → Bool
is_marked table n = unwrap_or (slice_get table n) false

-- the numbers that pass this test were marked beside those that were marked before
pub record Marks (takes : ℕ → Bool) (old new : List Bool) : Type 0 where
  pub at : (n : ℕ) → n < HANDLES → is_marked new n ≡ (is_marked old n || takes n)
