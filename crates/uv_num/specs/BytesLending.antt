-- What a buffer is once a borrow of its bytes ends.
use Rattle.std.specs.Prelude.{ℕ, List, ◌++◌, take, drop, length}
use Rattle.std.specs.Borrow.{Lends, MutBor, Fml, Array, u8 as byte}
use Rattle.uv_num.specs.Filled.{Filled}
use Rattle.uv_num.specs.contracts.bytes.Bytes.{the_row}

-- the bytes are those that the slice shows last, and the spare is as before
abbrev pub lends_bytes : MutBor Filled → MutBor (List ℕ) → Fml
lends_bytes s r =
    Lends the_row (Array byte 0) s r (λ w. record { bytes = take (length s.now.bytes) (w ++ drop (length w) s.now.bytes); spare = s.now.spare })
