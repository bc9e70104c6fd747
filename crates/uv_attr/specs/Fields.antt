-- Numbers at their places in bytes. All of them are little-endian.
use Rattle.std.specs.Prelude.{ℕ, List, drop}
use Rattle.std.specs.Int.{Width, from_le_bytes}

-- the number of that width whose first byte stands there
unfoldable pub field_at : Width → ℕ → List ℕ → ℕ
field_at w at bytes = from_le_bytes w (drop at bytes)
