-- How the lines of a list make a case's script.
use Rattle.std.specs.Prelude.{ℕ, ◌-◌, List, [], ◌∷◌, ◌++◌, take, length}
use Rattle.rows.specs.declared.case.End.{End}
use Rattle.rows.specs.declared.case.End.TheVariants.{Whole, Cut}

-- a script with a line more, and its line feed
abbrev pub with_line : List ℕ → List ℕ → List ℕ
with_line script line = (script ++ line) ++ 10 ∷ []

-- a script whose lines were put, as its end says: whole, or without its last line feed
abbrev pub ended_script : End → List ℕ → List ℕ
ended_script Whole script = script
ended_script Cut script = take (length script - 1) script
