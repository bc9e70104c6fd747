-- Which bytes are a script, and what it says.
use Rattle.std.specs.Prelude.{◌≡◌, ℕ, ◌+◌, Bool, true, false, List, [], ◌∷◌, ◌++◌, Result, Ok, Err, if◌then◌else◌}
use Rattle.uv_script.specs.Before.{Before, at_start}
use Rattle.uv_script.specs.Lines.{lines_of}
use Rattle.uv_script.specs.Names.{with_naming}
use Rattle.uv_script.specs.Reading.{Reading, Outside, Nothing, Says, reading_of}
use Rattle.uv_script.specs.declared.form.Form.{Form}
use Rattle.uv_script.specs.declared.form.Form.TheVariants.{Plain, Minus, Plus, Die, Data}
use Rattle.uv_script.specs.declared.form.Line.{Line}
use Rattle.uv_script.specs.declared.form.Mode.{Mode}
use Rattle.uv_script.specs.declared.form.Mode.TheVariants.{Steps}
use Rattle.uv_script.specs.declared.form.ScriptFault.{ScriptFault}
use Rattle.uv_script.specs.declared.form.ScriptFault.TheVariants.{At, NoMemory}
use Rattle.uv_script.specs.declared.script.Script.{Script}

-- A line, and what it leaves for the next one.

abbrev pub is_outside : Reading → Bool
is_outside Outside = true
is_outside Nothing = false
is_outside (Says form naming) = false

-- what a line of this number adds to the lines of a script
abbrev pub lines_at : ℕ → Reading → List Line
lines_at number Outside = []
lines_at number Nothing = []
lines_at number (Says form naming) = record { number = number; form = form } ∷ []

-- the client that a form lets die
abbrev pub dying : Form → List ℕ
dying (Plain actor deed) = []
dying (Minus actor deed) = []
dying (Plus actor) = []
dying (Die client) = client ∷ []
dying (Data client call) = []

-- what stands before the next line
abbrev pub after_line : Before → Reading → Before
after_line before Outside = before
after_line before Nothing = record { number = before.number + 1; look = before.look; dead = before.dead }
after_line before (Says form naming) =
    record { number = before.number + 1; look = with_naming before.number naming before.look; dead = before.dead ++ dying form }

-- what the end of the bytes is after all lines: nothing is missing
abbrev pub end_of_lines : Mode → Before → Result (List Line) ℕ
end_of_lines Steps before = Ok []

-- The lines of a script.

-- lines in front of those of a script
abbrev pub in_front_of : List Line → Result (List Line) ℕ → Result (List Line) ℕ
in_front_of lines (Ok more) = Ok (lines ++ more)
in_front_of lines (Err number) = Err number

-- a line in front of what the lines after it are
abbrev pub line_then : ℕ → Reading → Result (List Line) ℕ → Result (List Line) ℕ
line_then number reading more = if is_outside reading then Err number else in_front_of (lines_at number reading) more

-- the lines of a script from a line on, or the number of the first line that is outside
abbrev pub script_from : Mode → Before → List (List ℕ) → Result (List Line) ℕ
script_from mode before [] = end_of_lines mode before
script_from mode before (text ∷ texts) =
    let reading = reading_of before text in
    line_then before.number reading (script_from mode (after_line before reading) texts)

-- the lines of a script, or the number of the first line that is outside the language
abbrev pub script_of : Mode → List ℕ → Result (List Line) ℕ
script_of mode bytes = script_from mode at_start (lines_of bytes)

-- what each answer of a reading says of the bytes
abbrev pub ParsedAs : Result (List Line) ℕ → Result Script ScriptFault → Type 0
ParsedAs script (Ok lines) = script ≡ Ok lines
ParsedAs script (Err (At number)) = script ≡ Err number
ParsedAs script (Err NoMemory) = Unit {0}
