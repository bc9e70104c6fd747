-- What the lines of a script do: each leads from one stand to another.
use Rattle.std.specs.Prelude.{ℕ, ◌≡◌, ◌++◌, Bool, true, false, not, ◌&&◌, ◌==◌, List, [], Option, None, Some, Result, Ok, Err, slice_get}
use Rattle.std.specs.List.{range_with_len}
use Rattle.uv_num.specs.declared.errno.Errno.{Errno}
use Rattle.uv_num.specs.declared.limits.TheConstants.{FILES}
use Rattle.uv_machine.specs.declared.file.File.{File}
use Rattle.uv_machine.specs.States.{is_fresh}
use Rattle.uv_report.specs.declared.saying.Saying.TheVariants as saying
use Rattle.uv_script.specs.declared.form.Form.{Form}
use Rattle.uv_script.specs.declared.form.Form.TheVariants as form
use Rattle.uv_script.specs.declared.form.Line.{Line}
use Rattle.uv_run.specs.declared.flight.Task.{Task}
use Rattle.uv_run.specs.declared.reply.Telling.TheVariants.{Plus, ToEnd, Dying}
use Rattle.uv_run.specs.Site.{Turned, state_at, is_busy, closes, Begins}
use Rattle.uv_run.specs.Stand.{Stand, with_begun, after_turned, with_said}
use Rattle.uv_run.specs.Turns.{after_event, after_waiting, RunsOut}
use Rattle.uv_run.specs.Chains.{Chain}
use Rattle.uv_run.specs.DataPath.{data_played}
use Rattle.uv_run.specs.Asking.{Asking, task_of, asking_of}

-- Beginning.

-- an actor begins something on a line that runs it to its end: where the begin has to wait, the others go on
pub record BeginsLine (s : Stand) (n a : ℕ) (task : Task) (s' : Stand) : Type 0 where
  pub turned : Turned
  pub begins : Begins s.site a task turned
  pub stand : s' ≡ after_waiting ToEnd (with_begun s a n) a n turned

-- an actor begins something, and nobody goes on for it
pub record BeginsOnly (s : Stand) (n a : ℕ) (task : Task) (s' : Stand) : Type 0 where
  pub turned : Turned
  pub begins : Begins s.site a task turned
  pub stand : s' ≡ after_turned (Plus n) (with_begun s a n) a n turned

pub record RunsLine (s : Stand) (n a : ℕ) (task : Task) (s' : Stand) : Type 0 where
  pub begun : Stand
  pub begins : BeginsLine s n a task begun
  pub runs : RunsOut ToEnd begun a s'

-- The lines of an actor.

abbrev pub RunsTask : Stand → ℕ → ℕ → Result Task Errno → Stand → Type 0
RunsTask s n a (Ok t) s' = RunsLine s n a t s'
RunsTask s n a (Err e) s' = s' ≡ with_said s n (saying.Refused e)

abbrev pub BeginsTask : Stand → ℕ → ℕ → Result Task Errno → Stand → Type 0
BeginsTask s n a (Ok t) s' = BeginsOnly s n a t s'
BeginsTask s n a (Err e) s' = s' ≡ with_said s n (saying.Refused e)

-- what the actor has in flight is first run to its end
pub record RunsFirst (s : Stand) (a : ℕ) (Then : Stand → Type 0) : Type 0 where
  pub ready : Stand
  pub runs : RunsOut ToEnd s a ready
  pub goes : Then ready

-- one event under this line's number
abbrev pub plus_line : Bool → Stand → ℕ → ℕ → Stand
plus_line true s n a = after_event (Plus n) s a
plus_line false s n a = with_said s n saying.Idle

-- The death of a client.

abbrev pub is_clients : ℕ → Option File → Bool
is_clients c None = false
is_clients c (Some x) = not (is_fresh x.phase) && (x.client == c)

-- a close that is refused leaves no trace
abbrev pub ClosesIf : Bool → Stand → ℕ → ℕ → ℕ → Stand → Type 0
ClosesIf true s n c f s' = RunsOut Dying (after_waiting Dying (with_begun s c n) c n (closes s.site c f)) c s'
ClosesIf false s n c f s' = s' ≡ s

abbrev pub ClosesOwn : ℕ → ℕ → Stand → ℕ → Stand → Type 0
ClosesOwn n c s f s' = ClosesIf (is_clients c (slice_get (state_at s.site).files f)) s n c f s'

unfoldable pub all_files : List ℕ
all_files = range_with_len 0 FILES

pub record DiesLine (s : Stand) (n c : ℕ) (s' : Stand) : Type 0 where
  pub closed : Stand
  pub closes : Chain (ClosesOwn n c) s all_files closed
  pub told : s' ≡ with_said closed n saying.Ok

-- A line.

-- what a line does, and what it asks of the site
abbrev pub PlaysForm : Stand → ℕ → Form → Stand → List Asking → Type 0
PlaysForm s n (form.Plain a deed) s' asked =
    RunsFirst s a (λ ready. RunsTask ready n a (task_of ready.replies deed) s' × (asked ≡ asking_of n a (task_of ready.replies deed)))
PlaysForm s n (form.Minus a deed) s' asked =
    RunsFirst s a (λ ready. BeginsTask ready n a (task_of ready.replies deed) s' × (asked ≡ asking_of n a (task_of ready.replies deed)))
PlaysForm s n (form.Plus a) s' asked = (s' ≡ plus_line (is_busy s.site a) s n a) × (asked ≡ [])
PlaysForm s n (form.Die c) s' asked = RunsFirst s c (λ ready. DiesLine ready n c s') × (asked ≡ [])
PlaysForm s n (form.Data c call) s' asked = RunsFirst s c (λ ready. s' ≡ data_played ready n call) × (asked ≡ [])

abbrev pub Plays : Stand → Line → Stand → List Asking → Type 0
Plays s l s' asked = PlaysForm s l.number l.form s' asked

-- a stand, with what lines asked of the site up to it
pub record Told : Type 0 where
  pub stand : Stand
  pub asked : List Asking

pub record PlaysNext (t : Told) (l : Line) (t' : Told) : Type 0 where
  pub more : List Asking
  pub plays : Plays t.stand l t'.stand more
  pub asks : t'.asked ≡ t.asked ++ more

-- the lines of a script are played one after the other
abbrev pub PlaysAll : Stand → List Line → Stand → List Asking → Type 0
PlaysAll s ls s' asked = Chain PlaysNext (record { stand = s; asked = [] }) ls (record { stand = s'; asked = asked })

pub record PlaysOne (s : Stand) (n : ℕ) (form : Form) (s' : Stand) : Type 0 where
  pub asked : List Asking
  pub plays : PlaysForm s n form s' asked
