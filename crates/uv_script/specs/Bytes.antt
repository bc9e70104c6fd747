-- Bytes as scripts spell them.
use Rattle.std.specs.Prelude.{ℕ, Bool, ◌&&◌, nat_le, List, length, Option, None, if◌then◌else◌}
use Rattle.std.specs.Result.{result_ok}
use Rattle.hex.specs.Hex.{decode_of}
use Rattle.uv_num.specs.declared.limits.TheConstants.{HEX_DIGITS}

-- as many digits as bytes may have, which are some
abbrev pub is_hex_length : List ℕ → Bool
is_hex_length word = nat_le 2 (length word) && nat_le (length word) HEX_DIGITS

-- the bytes that a word spells: two hexadecimal digits in either case for each byte, the high four bits first
abbrev pub spelled_bytes : List ℕ → Option (List ℕ)
spelled_bytes word = if is_hex_length word then result_ok (decode_of word) else None
