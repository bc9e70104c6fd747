-- A whole run.
use Rattle.std.specs.Prelude.{ℕ, ◌≡◌, ◌++◌, ◌⊎◌, Bool, true, false, ◌==◌, List, [], ◌∷◌, Some, filter, map, replicate}
use Rattle.std.specs.List.{range_with_len}
use Rattle.uv_num.specs.declared.limits.TheConstants.{ACTOR_PLACES, DRIVER, ENDER}
use Rattle.uv_machine.specs.declared.entry.Entry.{Entry}
use Rattle.uv_machine.specs.States.{phase_of, is_callable}
use Rattle.uv_machine.specs.Histories.{IsLegal, state_of}
use Rattle.uv_machine.specs.Laws.{IsIdle}
use Rattle.uv_machine.specs.Calls.{Item, Opening, Calling, calls_of}
use Rattle.uv_machine.specs.Files.{AreOver}
use Rattle.uv_model.specs.Standing.{all_left}
use Rattle.uv_report.specs.declared.record.Record.{Record}
use Rattle.uv_report.specs.declared.record.Said.{Said}
use Rattle.uv_script.specs.declared.form.Line.{Line}
use Rattle.uv_run.specs.declared.flight.Task.{Task}
use Rattle.uv_run.specs.declared.flight.Task.TheVariants as task
use Rattle.uv_run.specs.declared.reply.Reply.{Reply}
use Rattle.uv_run.specs.declared.reply.Telling.{Telling}
use Rattle.uv_run.specs.declared.reply.Telling.TheVariants.{ToEnd, Ending}
use Rattle.uv_run.specs.Site.{start_site, state_at, closes}
use Rattle.uv_run.specs.Stand.{Stand, saying_for}
use Rattle.uv_run.specs.Turns.{after_waiting, RunsOut}
use Rattle.uv_run.specs.Chains.{Chain}
use Rattle.uv_run.specs.Asking.{Asking}
use Rattle.uv_run.specs.Lines.{all_files, PlaysAll}

-- The start.

unfoldable pub start_stand : Stand
start_stand = record { site = start_site; begun = replicate ACTOR_PLACES 0; replies = []; said = [] }

-- The end.

-- the clients and the driver, in their order
unfoldable pub all_actors : List ℕ
all_actors = range_with_len 1 DRIVER

-- what these actors have in flight is run to its end, in this order
abbrev pub RunsOutAll : Telling → Stand → List ℕ → Stand → Type 0
RunsOutAll m s actors s' = Chain (RunsOut m) s actors s'

-- a file that calls may enter is closed, any other left alone
abbrev pub ClosesEnd : Bool → Stand → ℕ → Stand → Type 0
ClosesEnd true s f s' = RunsOut Ending (after_waiting Ending s ENDER 0 (closes s.site ENDER f)) ENDER s'
ClosesEnd false s f s' = s' ≡ s

abbrev pub EndsFile : Stand → ℕ → Stand → Type 0
EndsFile s f s' = ClosesEnd (is_callable (phase_of (state_at s.site) f)) s f s'

-- the end of the script closes these files
abbrev pub EndsAll : Stand → List ℕ → Stand → Type 0
EndsAll s files s' = Chain EndsFile s files s'

-- What was asked for and what was answered.

-- the reply is that to what was asked for
pub record IsReplyTo (x : Asking) (r : Reply) : Type 0 where
  pub line : r.line ≡ x.line
  pub actor : r.actor ≡ x.actor

-- a call in the history is the one that was asked for, and has the answer of its reply
abbrev pub IsAnswered : Task → Reply → Item → Type 0
IsAnswered (task.Opens f d) r (Opening g e b) = (g ≡ f) × (e ≡ d) × (b ≡ r.answer)
IsAnswered (task.Opens f d) r (Calling g q b) = ⊥
IsAnswered (task.Calls f request) r (Opening g e b) = ⊥
IsAnswered (task.Calls f request) r (Calling g q b) = (g ≡ f) × (q ≡ request) × (b ≡ Some r.answer)
IsAnswered (task.Closes f) r item = ⊥
IsAnswered (task.Unplugs d) r item = ⊥

abbrev pub is_call : Task → Bool
is_call (task.Opens f d) = true
is_call (task.Calls f request) = true
is_call (task.Closes f) = false
is_call (task.Unplugs d) = false

-- one by one and in their order, each thing that an actor asked for has its reply, and each call its item in the history
pub data AreAnswered : List Asking → List Reply → List Item → Type 0 where
  Nothing : AreAnswered [] [] []
  Call :
      (asked : List Asking) (replies : List Reply) (items : List Item) (x : Asking) (r : Reply) (item : Item) → AreAnswered asked replies items
      → IsReplyTo x r → IsAnswered x.task r item → AreAnswered (asked ++ x ∷ []) (replies ++ r ∷ []) (items ++ item ∷ [])
  Teardown :
      (asked : List Asking) (replies : List Reply) (items : List Item) (x : Asking) (r : Reply) → AreAnswered asked replies items
      → IsReplyTo x r → is_call x.task ≡ false → AreAnswered (asked ++ x ∷ []) (replies ++ r ∷ []) items

abbrev pub is_asked_by : ℕ → Asking → Bool
is_asked_by c x = x.actor == c

abbrev pub replied_to : ℕ → Reply → Bool
replied_to c r = r.actor == c

-- each actor's calls are those of its lines, each once and in their order, with the answers of the replies
abbrev pub AnswersAll : List Asking → List Reply → List Entry → Type 0
AnswersAll asked replies history = (c : ℕ) → AreAnswered (filter (is_asked_by c) asked) (filter (replied_to c) replies) (calls_of history c)

-- the text of a reply, under the line that began what it ends
abbrev pub said_of : Reply → Said
said_of r = record { line = r.line; text = saying_for r.made r.answer }

-- the first texts stand among the second, in this order
abbrev pub AreAmong : List Said → List Said → Type 0
AreAmong [] said = Unit {0}
AreAmong (x ∷ xs) [] = ⊥
AreAmong (x ∷ xs) (y ∷ said) = ((x ≡ y) × AreAmong xs said) ⊎ AreAmong (x ∷ xs) said

-- a record follows the lines of a script
pub record FollowsScript (lines : List Line) (told : Record) : Type 0 where
  pub played : Stand
  pub finished : Stand
  pub ended : Stand
  pub asked : List Asking
  pub plays : PlaysAll start_stand lines played asked
  pub finishes : RunsOutAll ToEnd played all_actors finished
  pub left : told.left ≡ all_left (state_at finished.site)
  pub ends : EndsAll finished all_files ended
  pub history : told.history ≡ ended.site.history
  pub replies : told.replies ≡ ended.said
  pub legal : IsLegal told.history
  pub idle : IsIdle (state_of told.history)
  pub over : AreOver (state_of told.history)
  pub answers : AnswersAll asked ended.replies told.history
  pub tells : AreAmong (map said_of ended.replies) told.replies
