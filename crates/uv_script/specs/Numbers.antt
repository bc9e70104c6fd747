-- Numbers as scripts spell them, below 2^64: decimal digits without leading zeros, or `0x` and 1 to 16 hexadecimal digits.
use Rattle.std.specs.Prelude.{ℕ, ◌+◌, ◌-◌, ◌*◌, Bool, true, false, not, ◌==◌, ◌&&◌, ◌||◌, nat_lt, nat_le, List, [], ◌∷◌, length, drop, codes, nat_eq, Option, Some, None, if◌then◌else◌}
use Rattle.std.specs.Char.{is_ascii_digit}
use Rattle.std.specs.List.{list_all, starts_with}
use Rattle.uv_script.specs.declared.numbers.TheConstants.{LIMIT, NUMBER_DIGITS}

abbrev pub below_limit : ℕ → Option ℕ
below_limit n = if nat_lt n LIMIT then Some n else None

-- there is a first byte, and it is the digit 0 only where it is alone
abbrev pub has_bare_front : List ℕ → Bool
has_bare_front [] = false
has_bare_front (d ∷ []) = true
has_bare_front (d ∷ e ∷ ds) = not (d == 48)

-- digits, at least one, without leading zeros
abbrev pub is_decimal : List ℕ → Bool
is_decimal ds = has_bare_front ds && list_all is_ascii_digit ds

-- the value of decimal digits behind those of this value
abbrev pub decimal_from : ℕ → List ℕ → ℕ
decimal_from n [] = n
decimal_from n (d ∷ ds) = decimal_from (10 * n + (d - 48)) ds

abbrev pub decimal_value : List ℕ → Option ℕ
decimal_value ds = below_limit (decimal_from 0 ds)

-- the number that bytes spell in decimal
abbrev pub decimal_of : List ℕ → Option ℕ
decimal_of ds = if is_decimal ds then decimal_value ds else None

-- a digit, or a letter up to f in either case
abbrev pub is_hex_digit : ℕ → Bool
is_hex_digit d = (nat_le 48 d && nat_le d 57) || (nat_le 65 d && nat_le d 70) || (nat_le 97 d && nat_le d 102)

abbrev pub are_hex_digits : List ℕ → Bool
are_hex_digits ds = list_all is_hex_digit ds

-- 1 to `NUMBER_DIGITS` hexadecimal digits
abbrev pub is_hex : List ℕ → Bool
is_hex ds = nat_le 1 (length ds) && nat_le (length ds) NUMBER_DIGITS && are_hex_digits ds

-- what a hexadecimal digit stands for
abbrev pub hex_digit : ℕ → ℕ
hex_digit d = if nat_lt d 58 then d - 48 else (if nat_lt d 97 then d - 55 else d - 87)

-- the value of hexadecimal digits behind those of this value
abbrev pub hex_from : ℕ → List ℕ → ℕ
hex_from n [] = n
hex_from n (d ∷ ds) = hex_from (16 * n + hex_digit d) ds

abbrev pub hex_value : List ℕ → Option ℕ
hex_value ds = below_limit (hex_from 0 ds)

-- the number that bytes behind `0x` spell
abbrev pub hex_of : List ℕ → Option ℕ
hex_of ds = if is_hex ds then hex_value ds else None

-- the number that a word spells, if it spells one
abbrev pub number_of : List ℕ → Option ℕ
number_of word = if starts_with nat_eq word (codes "0x") then hex_of (drop 2 word) else decimal_of word
