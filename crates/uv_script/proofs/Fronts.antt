-- The lines of a script, one in front of the others.
use Rattle.std.proofs.Common.{◌≡◌, ℕ, List, [], ◌∷◌, ◌++◌, refl, Result, Ok, Err}
use Rattle.uv_script.specs.Reading.{Reading, Outside, Nothing, Says}
use Rattle.uv_script.specs.Script.{lines_at, in_front_of, line_then}
use Rattle.uv_script.specs.declared.form.Line.{Line}

-- a front of lines, with more lines after it
pub record Fronts (front lines : List Line) (more : Result (List Line) ℕ) : Type 0 where
  pub rest : List Line
  pub is : more ≡ Ok rest
  pub whole : lines ≡ front ++ rest

fronts-of : (front lines : List Line) (more : Result (List Line) ℕ) → in_front_of front more ≡ Ok lines → Fronts front lines more
fronts-of front lines (Ok rest) is = record { rest = rest; is = refl; whole = cc }
fronts-of front lines (Err number) is = cc

-- what a line adds stands in front of what the lines after it are
pub fronts-line : (number : ℕ) (reading : Reading) (lines : List Line) (more : Result (List Line) ℕ) → line_then number reading more ≡ Ok lines → Fronts (lines_at number reading) lines more
fronts-line number Outside lines more is = cc
fronts-line number Nothing lines more is = fronts-of [] lines more is
fronts-line number (Says form naming) lines more is = fronts-of (record { number = number; form = form } ∷ []) lines more is
