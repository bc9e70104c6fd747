-- What stands between two events: the site, the lines that began what is in flight, the replies, and what was told.
use Rattle.std.specs.Prelude.{ℕ, ◌+◌, ◌++◌, Bool, ◌==◌, nat_lt, List, [], ◌∷◌, Option, None, Some, if◌then◌else◌, slice_get, unwrap_or, find, option_to_list, reverse}
use Rattle.uv_num.specs.Place.{at_place}
use Rattle.uv_num.specs.declared.kind.Kind.{Kind}
use Rattle.uv_num.specs.declared.kind.Kind.TheVariants as kind
use Rattle.uv_num.specs.declared.limits.TheConstants.{CELLS, DRIVER, FIRST_QP_NUMBER, NONE}
use Rattle.uv_pool.specs.Keys.{key_number}
use Rattle.uv_machine.specs.declared.entry.Answer.{Answer}
use Rattle.uv_machine.specs.declared.entry.Answer.TheVariants as answer
use Rattle.uv_report.specs.declared.record.Said.{Said}
use Rattle.uv_report.specs.declared.saying.Saying.{Saying}
use Rattle.uv_report.specs.declared.saying.Saying.TheVariants as saying
use Rattle.uv_report.specs.declared.saying.Tearer.{Tearer}
use Rattle.uv_report.specs.declared.saying.Tearer.TheVariants.{Client, Driver}
use Rattle.uv_script.specs.declared.form.Handle.{Handle}
use Rattle.uv_script.specs.declared.form.Handle.TheVariants.{Number, Name}
use Rattle.uv_run.specs.declared.heard.Ended.{Ended}
use Rattle.uv_run.specs.declared.heard.Event.{Event}
use Rattle.uv_run.specs.declared.heard.Event.TheVariants as event
use Rattle.uv_run.specs.declared.reply.Reply.{Reply}
use Rattle.uv_run.specs.declared.reply.Telling.{Telling}
use Rattle.uv_run.specs.declared.reply.Telling.TheVariants as telling
use Rattle.uv_run.specs.Site.{Site, Turned}

pub record Stand : Type 0 where
  pub site : Site
  -- by actor, the line that began what it has in flight, or had last
  pub begun : List ℕ
  -- in their order, the replies to what actors began
  pub replies : List Reply
  pub said : List Said

abbrev pub begun_by : Stand → ℕ → ℕ
begun_by s a = unwrap_or (slice_get s.begun a) 0

abbrev pub put_line : ℕ → ℕ → ℕ
put_line n before = n

abbrev pub with_begun : Stand → ℕ → ℕ → Stand
with_begun s a n = record s { begun = at_place s.begun a (put_line n) }

-- Names.

abbrev pub is_reply_on : ℕ → Reply → Bool
is_reply_on n r = r.line == n

abbrev pub handle_told : Answer → ℕ
handle_told answer.Ok = NONE
handle_told (answer.Made handle index generation) = handle
handle_told (answer.State state index) = NONE
handle_told answer.Event = NONE
handle_told (answer.Kept kept) = NONE
handle_told (answer.Refused e) = NONE

-- the cell of an object, by its index and its generation
abbrev pub cell_answered : Answer → Option (ℕ × ℕ)
cell_answered answer.Ok = None
cell_answered (answer.Made handle index generation) = Some (index, generation)
cell_answered (answer.State state index) = None
cell_answered answer.Event = None
cell_answered (answer.Kept kept) = None
cell_answered (answer.Refused e) = None

abbrev pub answer_in : Option Reply → Option Answer
answer_in None = None
answer_in (Some r) = Some r.answer

-- the answer of what a line began, as the last reply to it tells, if it has ended
abbrev pub answer_on : List Reply → ℕ → Option Answer
answer_on replies n = answer_in (find (is_reply_on n) (reverse replies))

abbrev pub handle_in : Option Answer → ℕ
handle_in None = NONE
handle_in (Some a) = handle_told a

-- the handle that the create on a line was given: none where it has not ended, or was refused
abbrev pub given : List Reply → ℕ → ℕ
given replies n = handle_in (answer_on replies n)

abbrev pub cell_by : Option Answer → Option (ℕ × ℕ)
cell_by None = None
cell_by (Some a) = cell_answered a

-- the cell that it was given, in the same way
abbrev pub cell_given : List Reply → ℕ → Option (ℕ × ℕ)
cell_given replies n = cell_by (answer_on replies n)

-- the handle that a word stands for
abbrev pub handle_of : List Reply → Handle → ℕ
handle_of replies (Number handle) = handle
handle_of replies (Name n) = given replies n

abbrev pub ended_reply : ℕ → ℕ → Option Ended → Option Reply
ended_reply n a None = None
ended_reply n a (Some ended) = Some (record { line = n; actor = a; made = ended.made; answer = ended.answer })

-- the reply to what line n began; the single closes of a death and of the end have none
abbrev pub reply_by : Telling → ℕ → ℕ → Option Ended → Option Reply
reply_by (telling.Plus line) n a ended = ended_reply n a ended
reply_by telling.ToEnd n a ended = ended_reply n a ended
reply_by telling.Dying n a ended = None
reply_by telling.Ending n a ended = None

-- Texts.

-- the number of the queue pair in a cell
abbrev pub pair_number : ℕ → ℕ
pair_number index = if nat_lt index CELLS then FIRST_QP_NUMBER + index else NONE

-- the key of the region or window in a cell, at a generation
abbrev pub key_told : Kind → ℕ → ℕ → ℕ
key_told kind index generation = if nat_lt index CELLS then key_number kind index generation else NONE

abbrev pub made_text : Option Kind → ℕ → ℕ → ℕ → Saying
made_text None handle index generation = saying.Handle handle
made_text (Some kind.Pd) handle index generation = saying.Handle handle
made_text (Some kind.Channel) handle index generation = saying.Handle handle
made_text (Some kind.Cq) handle index generation = saying.Handle handle
made_text (Some kind.Qp) handle index generation = saying.Pair handle (pair_number index)
made_text (Some kind.Srq) handle index generation = saying.Handle handle
made_text (Some kind.Ah) handle index generation = saying.Handle handle
made_text (Some kind.Mr) handle index generation = saying.Key handle (key_told kind.Mr index generation)
made_text (Some kind.Mw) handle index generation = saying.Key handle (key_told kind.Mw index generation)

-- what a reply tells of an answer
abbrev pub saying_for : Option Kind → Answer → Saying
saying_for made answer.Ok = saying.Ok
saying_for made (answer.Made handle index generation) = made_text made handle index generation
saying_for made (answer.State state index) = saying.State state (pair_number index)
saying_for made answer.Event = saying.DeviceFatal
saying_for made (answer.Kept kept) = saying.Ok
saying_for made (answer.Refused e) = saying.Refused e

abbrev pub tearer_of : ℕ → Tearer
tearer_of a = if a == DRIVER then Driver else Client a

-- the text of an event, if it has one
abbrev pub full_text : Event → Option Saying
full_text event.Silent = None
full_text event.Began = Some saying.Began
full_text (event.Stepped word refusal) = Some (saying.Step word refusal)
full_text (event.Torn f) = Some (saying.Tear f)
full_text (event.Killed x) = Some (saying.Kill x)
full_text (event.Went x) = Some (saying.Gone x)
full_text (event.Dissociates f) = Some (saying.Dissociated f)
full_text (event.Closes f) = Some (saying.Closed f)
full_text (event.NotYet f calls) = Some (saying.NotYet calls)
full_text (event.TornBy f by) = Some (saying.TornBy (tearer_of by))

-- what a run to the end tells of an event
abbrev pub gone_text : Event → Option Saying
gone_text event.Silent = None
gone_text event.Began = None
gone_text (event.Stepped word refusal) = None
gone_text (event.Torn f) = None
gone_text (event.Killed x) = None
gone_text (event.Went x) = Some (saying.Gone x)
gone_text (event.Dissociates f) = None
gone_text (event.Closes f) = None
gone_text (event.NotYet f calls) = None
gone_text (event.TornBy f by) = None

-- what is told of an event
abbrev pub event_text : Telling → Event → Option Saying
event_text (telling.Plus line) e = full_text e
event_text telling.ToEnd e = gone_text e
event_text telling.Dying e = gone_text e
event_text telling.Ending e = None

-- the line under which it is told, n being the one that began what is in flight
abbrev pub event_line : Telling → ℕ → ℕ
event_line (telling.Plus line) n = line
event_line telling.ToEnd n = n
event_line telling.Dying n = n
event_line telling.Ending n = n

abbrev pub said_if : ℕ → Option Saying → List Said
said_if n None = []
said_if n (Some text) = record { line = n; text = text } ∷ []

abbrev pub event_said : Telling → ℕ → Event → List Said
event_said m n e = said_if (event_line m n) (event_text m e)

abbrev pub reply_text : Option Reply → Option Saying
reply_text None = None
reply_text (Some r) = Some (saying_for r.made r.answer)

-- what stands after an event of what line n began
abbrev pub after_turned : Telling → Stand → ℕ → ℕ → Turned → Stand
after_turned m s a n t =
    record {
      site = t.site;
      begun = s.begun;
      replies = s.replies ++ option_to_list (reply_by m n a t.heard.ends);
      said = (s.said ++ event_said m n t.heard.event) ++ said_if n (reply_text (reply_by m n a t.heard.ends));
    }

-- a text under a line's number
abbrev pub with_said : Stand → ℕ → Saying → Stand
with_said s n text = record s { said = s.said ++ record { line = n; text = text } ∷ [] }
