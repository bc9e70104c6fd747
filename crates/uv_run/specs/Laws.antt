-- Laws of runs.
use Rattle.std.specs.Prelude.{ℕ, ◌≡◌, ◌≢◌, ◌≤◌, ◌+◌, List, [], ◌∷◌, Some, length, slice_get}
use Rattle.uv_num.specs.declared.errno.Errno.TheVariants.{NoMem}
use Rattle.uv_machine.specs.declared.entry.Entry.{Entry}
use Rattle.uv_report.specs.declared.record.Record.{Record}
use Rattle.uv_report.specs.declared.record.Said.{Said}
use Rattle.uv_report.specs.declared.saying.Saying.TheVariants as saying
use Rattle.uv_script.specs.declared.form.Line.{Line}
use Rattle.uv_run.specs.Follows.{FollowsScript}
use Rattle.uv_run.specs.Marks.{FollowsMarked}

-- no text tells that memory ran out
abbrev pub HadMemory : List Said → Type 0
HadMemory [] = Unit {0}
HadMemory (x ∷ said) = (x.text ≢ saying.Refused NoMem) × HadMemory said

-- a record without ENOMEM is a function of the script
abbrev pub RecordIsTold : Type 0
RecordIsTold = (lines : List Line) (a b : Record) → FollowsScript lines a → FollowsScript lines b → HadMemory a.replies → HadMemory b.replies → a ≡ b

-- each mark is at least the one before it, from the first bound on, and the last is at most the second one
abbrev pub Rise : ℕ → List ℕ → ℕ → Type 0
Rise low [] high = low ≤ high
Rise low (m ∷ marks) high = (low ≤ m) × Rise m marks high

-- the marks cut a history into pieces: one for each line, and one after the last
pub record AreCuts (history : List Entry) (lines : List Line) (marks : List ℕ) : Type 0 where
  pub count : length marks ≡ length lines + 1
  pub first : slice_get marks 0 ≡ Some 0
  pub rise : Rise 0 marks (length history)

-- the marks of a run cut its history
abbrev pub MarksAreCuts : Type 0
MarksAreCuts = (lines : List Line) (told : Record) (marks : List ℕ) → FollowsMarked lines told marks → AreCuts told.history lines marks
