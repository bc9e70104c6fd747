-- The words for clients, actors, files and devices.
use Rattle.std.specs.Prelude.{ℕ, ◌==◌, ◌&&◌, nat_lt, nat_le, nat_eq, List, [], ◌∷◌, codes, Option, Some, None, if◌then◌else◌, option_and_then}
use Rattle.std.specs.Cmp.Lexicographic.{pointwise}
use Rattle.uv_num.specs.declared.limits.TheConstants.{CLIENTS, DRIVER, FILES, DEVICES}
use Rattle.uv_script.specs.Numbers.{decimal_of}

-- the decimal number after a letter
abbrev pub numbered : ℕ → List ℕ → Option ℕ
numbered letter [] = None
numbered letter (c ∷ ds) = if c == letter then decimal_of ds else None

abbrev pub as_client : ℕ → Option ℕ
as_client n = if nat_le 1 n && nat_le n CLIENTS then Some n else None

abbrev pub as_file : ℕ → Option ℕ
as_file n = if nat_lt n FILES then Some n else None

abbrev pub as_device : ℕ → Option ℕ
as_device n = if nat_lt n DEVICES then Some n else None

-- `c1` to `c8`
abbrev pub client_word : List ℕ → Option ℕ
client_word word = option_and_then as_client (numbered 99 word)

-- a client, or `drv`
abbrev pub actor_word : List ℕ → Option ℕ
actor_word word = if pointwise nat_eq word (codes "drv") then Some DRIVER else client_word word

-- `f0` to `f15`
abbrev pub file_word : List ℕ → Option ℕ
file_word word = option_and_then as_file (numbered 102 word)

-- `d0` and `d1`
abbrev pub device_word : List ℕ → Option ℕ
device_word word = option_and_then as_device (numbered 100 word)
