-- The texts of runs that write no report, as bytes.
use Rattle.std.specs.Prelude.{ℕ, List, [], ◌∷◌, ◌++◌, codes}
use Rattle.std.specs.Fmt.{decimal}

-- what is told of bytes that are no script, by the first line that is outside the language
abbrev pub fault_line : ℕ → List ℕ
fault_line line = codes "script fault at line " ++ decimal line ++ 10 ∷ []

-- what is told of words that are none of the forms
abbrev pub usage_line : List ℕ
usage_line = codes "usage: verbsrun steps | threads W | gen SEED COUNT" ++ 10 ∷ []

-- what is told of more bytes than a script has
abbrev pub too_long_line : List ℕ
too_long_line = codes "script too long" ++ 10 ∷ []
