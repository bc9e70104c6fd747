-- What each status of a run says of the source, of the sink and of the record.
use Rattle.std.specs.Prelude.{ℕ, ◌≡◌, ◌≤◌, ◌+◌, ◌⊎◌, List, [], Option, Some, Ok, Err, length}
use Rattle.std.specs.Io.KnownBytes.{Appends}
use Rattle.uv_io.specs.Faults.{Rose}
use Rattle.uv_io.specs.Whole.{ReadsWhole, ReadsPrefix, ReadsCount, WritesPrefix}
use Rattle.uv_script.specs.declared.form.Line.{Line}
use Rattle.uv_script.specs.Script.{script_of}
use Rattle.uv_report.specs.declared.record.Record.{Record}
use Rattle.uv_run.specs.Texts.{fault_line, too_long_line}
use Rattle.uv_run.specs.Wanted.{mode_of, most_bytes, FollowsAs, text_for}
use Rattle.uv_run.specs.declared.words.Wanted.{Wanted}

-- a record that tells nothing
abbrev pub empty_record : Record
empty_record = record { history = []; replies = []; left = [] }

-- nothing is told
abbrev pub IsEmptyRecord : Record → Type 0
IsEmptyRecord told = told ≡ empty_record

-- a fault of the sink cut a text short: a prefix of it was written
pub record IsCutShort (old new : Option (List ℕ)) (before now : ℕ) (text : List ℕ) : Type 0 where
  pub fault : Rose before now
  pub prefix : WritesPrefix old new text

-- a text was written, or a fault of the sink cut it short
abbrev pub WritesUnlessFault : Option (List ℕ) → Option (List ℕ) → ℕ → ℕ → List ℕ → Type 0
WritesUnlessFault old new before now text = Appends old new text ⊎ IsCutShort old new before now text

-- these bytes are a script, and the record follows it
pub record RunsBytes (wanted : Wanted) (bytes : List ℕ) (told : Record) : Type 0 where
  pub lines : List Line
  pub script : script_of (mode_of wanted) bytes ≡ Ok lines
  pub follows : FollowsAs wanted lines told

-- all that was left was read, it is a script, and the record follows it
pub record RunsScript (wanted : Wanted) (old new : Option (List ℕ)) (told : Record) : Type 0 where
  pub bytes : List ℕ
  pub whole : ReadsWhole old new bytes (most_bytes wanted)
  pub runs : RunsBytes wanted bytes told

-- the first line of bytes that is outside the language, if there is one, is told
pub record TellsFault (wanted : Wanted) (bytes : List ℕ) (old new : Option (List ℕ)) (before now : ℕ) : Type 0 where
  pub line : ℕ
  pub script : script_of (mode_of wanted) bytes ≡ Err line
  pub text : WritesUnlessFault old new before now (fault_line line)

-- all that was left was read, it is no script, and its first line that is outside the language is told
pub record RefusesScript (wanted : Wanted) (old new written rewritten : Option (List ℕ)) (before now : ℕ) : Type 0 where
  pub bytes : List ℕ
  pub whole : ReadsWhole old new bytes (most_bytes wanted)
  pub tells : TellsFault wanted bytes written rewritten before now

-- status 0: the script was run, and its report was written
pub record Reports (wanted : Wanted) (old new written rewritten : Option (List ℕ)) (told : Record) : Type 0 where
  pub runs : RunsScript wanted old new told
  pub report : Appends written rewritten (text_for wanted runs.runs.lines told)

-- status 4: the script was run, and a fault of the sink cut its report short
pub record ReportsCutShort (wanted : Wanted) (old new written rewritten : Option (List ℕ)) (before now : ℕ) (told : Record) : Type 0 where
  pub runs : RunsScript wanted old new told
  pub report : IsCutShort written rewritten before now (text_for wanted runs.runs.lines told)

-- status 3: the source had a fault behind some bytes
pub record FailsReading (wanted : Wanted) (old new : Option (List ℕ)) (before now : ℕ) : Type 0 where
  pub fault : Rose before now
  pub read : ReadsPrefix old new (most_bytes wanted)

-- status 6: a byte more than a script has was read, and it is told
pub record RefusesLength (wanted : Wanted) (old new written rewritten : Option (List ℕ)) (before now : ℕ) : Type 0 where
  pub read : ReadsCount old new (most_bytes wanted + 1)
  pub text : WritesUnlessFault written rewritten before now too_long_line

-- what is left is known to be a script that isn't too long
pub record IsScriptLeft (wanted : Wanted) (left : Option (List ℕ)) : Type 0 where
  pub bytes : List ℕ
  pub known : left ≡ Some bytes
  pub bound : length bytes ≤ most_bytes wanted
  pub lines : List Line
  pub script : script_of (mode_of wanted) bytes ≡ Ok lines

-- the script was run, or memory ran out
abbrev pub IsRunOrNoMemory : ℕ → Type 0
IsRunOrNoMemory status = (status ≡ 0) ⊎ (status ≡ 5)

-- the statuses that are left once all bytes were read
abbrev pub IsBytesStatus : ℕ → Type 0
IsBytesStatus status = ((status ≡ 0) ⊎ (status ≡ 1)) ⊎ ((status ≡ 4) ⊎ (status ≡ 5))

-- the statuses of a run of which the words are right
abbrev pub IsStepsStatus : ℕ → Type 0
IsStepsStatus status = IsBytesStatus status ⊎ ((status ≡ 3) ⊎ (status ≡ 6))
