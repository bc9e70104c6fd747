-- How long the history was as each line of a script began, and after the last one.
use Rattle.std.specs.Prelude.{ℕ, ◌≡◌, ◌++◌, List, [], ◌∷◌, Result, Ok, Err, length}
use Rattle.uv_report.specs.declared.record.Record.{Record}
use Rattle.uv_script.specs.declared.form.Line.{Line}
use Rattle.uv_script.specs.declared.form.Mode.TheVariants.{Steps}
use Rattle.uv_script.specs.declared.form.ScriptFault.{ScriptFault}
use Rattle.uv_script.specs.declared.form.ScriptFault.TheVariants.{At, NoMemory}
use Rattle.uv_script.specs.Script.{script_of}
use Rattle.uv_run.specs.Asking.{Asking}
use Rattle.uv_run.specs.Chains.{Chain}
use Rattle.uv_run.specs.Follows.{start_stand, FollowsScript}
use Rattle.uv_run.specs.Lines.{PlaysNext, Told}
use Rattle.uv_run.specs.Stand.{Stand}
use Rattle.uv_run.specs.declared.marked.Marked.{Marked}

-- how long the history is at a stand
abbrev pub mark_at : Stand → ℕ
mark_at s = length s.site.history

-- what lines left and asked for, with a mark for each of them
pub record ToldMarks : Type 0 where
  pub told : Told
  pub marks : List ℕ

-- a line is played, and its mark is how long the history was as it began
pub record PlaysMark (t : ToldMarks) (l : Line) (t' : ToldMarks) : Type 0 where
  pub plays : PlaysNext t.told l t'.told
  pub marks : t'.marks ≡ t.marks ++ mark_at t.told.stand ∷ []

abbrev pub told_marks : Stand → List Asking → List ℕ → ToldMarks
told_marks s asked marks = record { told = record { stand = s; asked = asked }; marks = marks }

-- the lines of a script are played one after the other, as `PlaysAll` says, and these are their marks
pub record PlaysMarks (s : Stand) (lines : List Line) (s' : Stand) (marks : List ℕ) : Type 0 where
  pub asked : List Asking
  pub plays : Chain PlaysMark (told_marks s [] []) lines (told_marks s' asked marks)

-- lines are played, and the marks are theirs and then that of the end of the last one
pub record PlaysMarked (s : Stand) (lines : List Line) (s' : Stand) (marks : List ℕ) : Type 0 where
  pub begun : List ℕ
  pub plays : PlaysMarks s lines s' begun
  pub whole : marks ≡ begun ++ mark_at s' ∷ []

-- a record follows the lines of a script, and the marks are those of its run
pub record FollowsMarked (lines : List Line) (told : Record) (marks : List ℕ) : Type 0 where
  pub follows : FollowsScript lines told
  pub marked : PlaysMarked start_stand lines follows.played marks

-- what each answer of a marked run says of the bytes
abbrev pub MarkedAs : List ℕ → Result Marked ScriptFault → Type 0
MarkedAs bytes (Ok m) = (script_of Steps bytes ≡ Ok m.script) × FollowsMarked m.script m.told m.marks
MarkedAs bytes (Err (At number)) = script_of Steps bytes ≡ Err number
MarkedAs bytes (Err NoMemory) = Unit {0}
