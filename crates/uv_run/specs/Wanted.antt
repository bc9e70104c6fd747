-- What the words that a run is started with ask for, and how each of that is run.
use Rattle.std.specs.Prelude.{ℕ, List, [], ◌∷◌, Option, None, Some, Vec, if◌then◌else◌, nat_eq, codes, string_bytes}
use Rattle.std.specs.Cmp.Lexicographic.{pointwise}
use Rattle.std.specs.declared.string.String.{String}
use Rattle.std.specs.declared.alloc.Global.{Global}
use Rattle.uv_num.specs.declared.limits.TheConstants.{SCRIPT_BYTES}
use Rattle.uv_script.specs.declared.form.Line.{Line}
use Rattle.uv_script.specs.declared.form.Mode.{Mode}
use Rattle.uv_script.specs.declared.form.Mode.TheVariants as mode
use Rattle.uv_report.specs.declared.record.Record.{Record}
use Rattle.uv_report.specs.Report.{report_of}
use Rattle.uv_run.specs.Follows.{FollowsScript}
use Rattle.uv_run.specs.declared.words.Wanted.{Wanted}
use Rattle.uv_run.specs.declared.words.Wanted.TheVariants.{Steps}

-- The words.

abbrev pub word_wanted : List ℕ → Option Wanted
word_wanted word = if pointwise nat_eq word (codes "steps") then Some Steps else None

-- what the words ask for, if they are one of the forms: just `steps`
abbrev pub words_wanted : List (String Global) → Option Wanted
words_wanted [] = None
words_wanted (word ∷ []) = word_wanted (string_bytes word)
words_wanted (word ∷ more ∷ words) = None

-- the same of words that couldn't be had, which are none of the forms
abbrev pub given_wanted : Option (Vec (String Global) Global) → Option Wanted
given_wanted None = None
given_wanted (Some words) = words_wanted words.items

-- the words are one of the forms, and this is so of what they ask for
abbrev pub AsWanted : Option Wanted → (Wanted → Type 0) → Type 0
AsWanted None Then = ⊥
AsWanted (Some wanted) Then = Then wanted

-- How it is run.

-- the language that the script is in
abbrev pub mode_of : Wanted → Mode
mode_of Steps = mode.Steps

-- the most bytes that the script has
abbrev pub most_bytes : Wanted → ℕ
most_bytes Steps = SCRIPT_BYTES

-- what a record has to do with the lines
abbrev pub FollowsAs : Wanted → List Line → Record → Type 0
FollowsAs Steps lines told = FollowsScript lines told

-- what is written of the lines and the record
abbrev pub text_for : Wanted → List Line → Record → List ℕ
text_for Steps lines told = report_of told
