-- The first word of a line: who does something, and how far.
use Rattle.std.specs.Prelude.{ℕ, ◌-◌, ◌==◌, nat_eq, List, length, take, slice_index, codes, Option, Some, if◌then◌else◌}
use Rattle.std.specs.Option.{option_map}
use Rattle.std.specs.Cmp.Lexicographic.{pointwise}
use Rattle.uv_script.specs.Places.{actor_word}
use Rattle.uv_script.specs.declared.heads.Head.{Head}
use Rattle.uv_script.specs.declared.heads.Head.TheVariants.{Plain, Minus, Plus, Die}

-- the last byte of a word, and the word without it
abbrev pub last_byte : List ℕ → ℕ
last_byte word = slice_index word (length word - 1)

abbrev pub without_last : List ℕ → List ℕ
without_last word = take (length word - 1) word

-- an actor, which may have a `-` or a `+` after it
abbrev pub actor_head : List ℕ → Option Head
actor_head word =
    if last_byte word == 45 then option_map Minus (actor_word (without_last word))
    else (if last_byte word == 43 then option_map Plus (actor_word (without_last word))
    else option_map Plain (actor_word word))

-- `die`, or an actor
abbrev pub head_word : List ℕ → Option Head
head_word word = if pointwise nat_eq word (codes "die") then Some Die else actor_head word
