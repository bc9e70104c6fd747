-- Numbers at their places in bytes. All of them are big-endian.
use Rattle.std.specs.Prelude.{ℕ, List, drop}
use Rattle.byteorder.specs.Endian.{big_number}

-- the number of so many bytes whose first byte stands there
unfoldable pub field : ℕ → ℕ → List ℕ → ℕ
field size at bytes = big_number size (drop at bytes)
