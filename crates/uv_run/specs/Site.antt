-- The machine, what its objects hold, and the teardowns in flight at it: what one event makes of them. Nothing here knows of lines, names or texts.
use Rattle.std.specs.Prelude.{ℕ, zero, suc, ◌≡◌, ◌++◌, Bool, not, ◌&&◌, ◌||◌, ◌==◌, List, [], ◌∷◌, Option, None, Some, if◌then◌else◌, replicate, slice_get, is_none, position}
use Rattle.uv_num.specs.Place.{at_place}
use Rattle.uv_num.specs.Request.{role_of}
use Rattle.uv_num.specs.declared.errno.Errno.{Errno}
use Rattle.uv_num.specs.declared.errno.Errno.TheVariants.{BadF, Io}
use Rattle.uv_num.specs.declared.kind.Kind.{Kind}
use Rattle.uv_num.specs.declared.qp.QpState.{QpState}
use Rattle.uv_num.specs.declared.request.Request.{Request}
use Rattle.uv_num.specs.declared.request.Role.{Role}
use Rattle.uv_num.specs.declared.request.Role.TheVariants.{Creates, Destroys, Acts}
use Rattle.uv_num.specs.declared.limits.TheConstants.{ACTOR_PLACES, DRIVER, FILES}
use Rattle.uv_machine.specs.declared.call.InFlight.{InFlight}
use Rattle.uv_machine.specs.declared.entry.Answer.{Answer}
use Rattle.uv_machine.specs.declared.entry.Answer.TheVariants as answer
use Rattle.uv_machine.specs.declared.entry.CallStep.{CallStep}
use Rattle.uv_machine.specs.declared.entry.Entry.{Entry}
use Rattle.uv_machine.specs.declared.entry.Entry.TheVariants as entry
use Rattle.uv_machine.specs.declared.file.FilePhase.{FilePhase}
use Rattle.uv_machine.specs.declared.file.FilePhase.TheVariants as file
use Rattle.uv_machine.specs.declared.moves.Slot.TheVariants.{OfTeardown}
use Rattle.uv_machine.specs.declared.object.Object.{Object}
use Rattle.uv_machine.specs.declared.state.State.{State}
use Rattle.uv_machine.specs.States.{call_of, phase_of, device_of, is_open, is_tearing, is_unplugged, newest_free}
use Rattle.uv_machine.specs.Steps.{next_of}
use Rattle.uv_machine.specs.Effects.{refusal_in}
use Rattle.uv_machine.specs.Histories.{state_of}
use Rattle.uv_machine.specs.Outside.{MayAnswer, open_refusal, enter_refusal}
use Rattle.uv_graph.specs.Calls.{calls_on}
use Rattle.uv_graph.specs.Owns.{tears_it}
use Rattle.uv_graph.specs.Seats.{slot_of}
use Rattle.uv_graph.specs.Slots.{put_slot}
use Rattle.uv_graph.specs.Turns.{is_exit, step_entry}
use Rattle.uv_model.specs.Standing.{left_of}
use Rattle.uv_world.specs.Holdings.{Held, no_contents}
use Rattle.uv_world.specs.Moving.{actions_in, held_after, held_in_slot}
use Rattle.uv_world.specs.Stages.{Stage, stage_found, stage_kept}
use Rattle.uv_run.specs.declared.flight.Killed.{Killed}
use Rattle.uv_run.specs.declared.flight.Task.{Task}
use Rattle.uv_run.specs.declared.flight.Task.TheVariants as task
use Rattle.uv_run.specs.declared.flight.Teardown.{Teardown}
use Rattle.uv_run.specs.declared.flight.Teardown.TheVariants.{Closing, Unplugging}
use Rattle.uv_run.specs.declared.heard.Event.{Event}
use Rattle.uv_run.specs.declared.heard.Event.TheVariants as event
use Rattle.uv_run.specs.declared.heard.Heard.{Heard}

-- The site.

-- the history of the machine, whose state is its replay, and what all objects hold after it; by actor, the teardown in flight, and
-- the object that it has taken out of use and not yet released. The calls in flight are the machine's
pub record Site : Type 0 where
  pub history : List Entry
  pub held : Held
  pub teardowns : List (Option Teardown)
  pub killed : List (Option Killed)

unfoldable pub start_site : Site
start_site = record { history = []; held = no_contents; teardowns = replicate ACTOR_PLACES None; killed = replicate ACTOR_PLACES None }

abbrev pub state_at : Site → State
state_at s = state_of s.history

abbrev pub stage_at : Site → Stage
stage_at s = record { history = s.history; held = s.held }

-- each entry goes through this
abbrev pub with_entry : Site → Entry → Site
with_entry s e = record s { history = s.history ++ e ∷ []; held = held_after s.held (state_at s) e }

-- the state of a pair that the next step of an actor's call finds, if it looks at one
abbrev pub found_of : Site → ℕ → Option QpState
found_of s a = stage_found (stage_at s) (call_of (state_at s) a)

-- what is kept of the object that an actor's call has taken out of use
abbrev pub kept_at : Site → ℕ → ℕ
kept_at s a = stage_kept (stage_at s) a

-- what is kept of the object that the teardown of a file has taken out of use
abbrev pub kept_of_file : Site → ℕ → ℕ
kept_of_file s f = actions_in (held_in_slot s.held (OfTeardown f))

abbrev pub teardown_of : Site → ℕ → Option Teardown
teardown_of s a = slot_of (slice_get s.teardowns a)

abbrev pub with_teardown : Site → ℕ → Option Teardown → Site
with_teardown s a now = record s { teardowns = at_place s.teardowns a (put_slot now) }

abbrev pub killed_of : Site → ℕ → Option Killed
killed_of s a = slot_of (slice_get s.killed a)

abbrev pub with_killed : Site → ℕ → Option Killed → Site
with_killed s a now = record s { killed = at_place s.killed a (put_slot now) }

-- the file that an actor is tearing down
abbrev pub torn_by : State → ℕ → Option ℕ
torn_by m a = position (tears_it a) m.files

-- an actor has something in flight
abbrev pub is_busy : Site → ℕ → Bool
is_busy s a = not (is_none (call_of (state_at s) a)) || not (is_none (teardown_of s a))

-- What is heard.

-- an event, with the site after it
pub record Turned : Type 0 where
  pub site : Site
  pub heard : Heard

abbrev pub goes_on : Event → Heard
goes_on e = record { event = e; ends = None }

-- what was in flight ends with this answer, and it made no object
abbrev pub ends_with : Event → Answer → Heard
ends_with e a = record { event = e; ends = Some (record { made = None; answer = a }) }

abbrev pub silence : Site → Turned
silence s = record { site = s; heard = goes_on event.Silent }

-- A step of a call.

abbrev pub made_kind : Role → Option Kind
made_kind (Creates kind) = Some kind
made_kind (Destroys asked) = None
made_kind (Acts act) = None

-- the kind that a call makes
abbrev pub kind_in_call : Option InFlight → Option Kind
kind_in_call None = None
kind_in_call (Some call) = made_kind (role_of call.request)

-- an exit ends the call, and no exit is refused; any other step tells its refusal
abbrev pub step_heard : Option Kind → CallStep → Heard
step_heard made d =
    if is_exit d.word
    then record { event = event.Stepped d.word None; ends = Some (record { made = made; answer = d.answer }) }
    else goes_on (event.Stepped d.word (refusal_in d.answer))

abbrev pub call_turn : Site → ℕ → CallStep → Turned
call_turn s a d = record { site = with_entry s (step_entry a d); heard = step_heard (kind_in_call (call_of (state_at s) a)) d }

-- An event of a teardown.

-- a file that the driver has to see to: it is on the device, and open or being torn
abbrev pub is_ahead : State → ℕ → ℕ → Bool
is_ahead m d f = (device_of m f == d) && (is_open (phase_of m f) || is_tearing (phase_of m f))

abbrev pub or_this : Option ℕ → ℕ → Bool → Option ℕ
or_this (Some g) f is_one = Some g
or_this None f is_one = if is_one then Some f else None

-- the first file below a number that the driver has to see to
unfoldable pub file_below : ℕ → State → ℕ → Option ℕ
file_below zero m d = None
file_below (suc f) m d = or_this (file_below f m d) f (is_ahead m d f)

abbrev pub file_ahead : State → ℕ → Option ℕ
file_ahead m d = file_below FILES m d

-- the driver is through where no file of the device is ahead
abbrev pub removed : Site → ℕ → Event → Option ℕ → Turned
removed s a e None = record { site = with_teardown s a None; heard = ends_with e answer.Ok }
removed s a e (Some f) = record { site = s; heard = goes_on e }

abbrev pub dissociated_turn : Site → ℕ → ℕ → ℕ → Turned
dissociated_turn s a d f = removed s a (event.Dissociates f) (file_ahead (state_at s) d)

-- a torn file has husks alone: its teardown ends
abbrev pub last_of : ℕ → Teardown → Entry
last_of f (Closing g) = entry.Closed f
last_of f (Unplugging d) = entry.Dissociated f

abbrev pub ended_turn : Site → ℕ → ℕ → Teardown → Turned
ended_turn s a f (Closing g) = record { site = with_teardown s a None; heard = ends_with (event.Closes f) answer.Ok }
ended_turn s a f (Unplugging d) = dissociated_turn s a d f

abbrev pub torn_down : Site → ℕ → ℕ → Teardown → Turned
torn_down s a f t = ended_turn (with_entry s (last_of f t)) a f t

abbrev pub kill_of_object : Object → Killed
kill_of_object x = record { object = x.id; left = left_of x }

abbrev pub kill_turn : Site → ℕ → ℕ → Teardown → Option Object → Turned
kill_turn s a f t None = torn_down s a f t
kill_turn s a f t (Some x) =
    record { site = with_killed (with_entry s (entry.Kill x.id)) a (Some (kill_of_object x)); heard = goes_on (event.Killed (left_of x)) }

-- a torn file is swept once no call on it is in flight
abbrev pub swept_turn : Site → ℕ → ℕ → Teardown → Turned
swept_turn s a f t =
    if calls_on (state_at s) f == 0
    then kill_turn s a f t (newest_free (state_at s) f)
    else record { site = s; heard = goes_on (event.NotYet f (calls_on (state_at s) f)) }

abbrev pub release_turn : Site → ℕ → ℕ → Killed → Turned
release_turn s a f x = record { site = with_killed (with_entry s (entry.Gone x.object (kept_of_file s f))) a None; heard = goes_on (event.Went x.left) }

-- what was taken out of use is released before the sweep goes on
abbrev pub sweep_turn : Site → ℕ → ℕ → Teardown → Option Killed → Turned
sweep_turn s a f t None = swept_turn s a f t
sweep_turn s a f t (Some x) = release_turn s a f x

abbrev pub tear_turn : Site → ℕ → ℕ → Turned
tear_turn s a f = record { site = with_entry s (entry.Tear f a); heard = goes_on (event.Torn f) }

-- the close is refused, at its begin or after it waited
abbrev pub no_close : Site → ℕ → Turned
no_close s a = record { site = with_teardown s a None; heard = ends_with event.Silent (answer.Refused BadF) }

-- the file is being torn by another: by the driver, for whom a close waits, or by another close
abbrev pub torn_turn : Site → ℕ → ℕ → ℕ → Turned
torn_turn s a f by = if by == DRIVER then record { site = s; heard = goes_on (event.TornBy f by) } else no_close s a

abbrev pub close_turn : Site → ℕ → ℕ → FilePhase → Turned
close_turn s a f file.Fresh = no_close s a
close_turn s a f file.Open = tear_turn s a f
close_turn s a f (file.Tearing by) = torn_turn s a f by
close_turn s a f file.Dissociated = tear_turn s a f
close_turn s a f file.Closed = no_close s a

abbrev pub removal_turn : Site → ℕ → ℕ → FilePhase → Turned
removal_turn s a f file.Fresh = silence s
removal_turn s a f file.Open = tear_turn s a f
removal_turn s a f (file.Tearing by) = record { site = s; heard = goes_on (event.TornBy f by) }
removal_turn s a f file.Dissociated = silence s
removal_turn s a f file.Closed = silence s

abbrev pub unplug_turn : Site → ℕ → Option ℕ → Turned
unplug_turn s a None = record { site = with_teardown s a None; heard = ends_with event.Silent answer.Ok }
unplug_turn s a (Some f) = removal_turn s a f (phase_of (state_at s) f)

-- a teardown that tears no file begins to tear one
abbrev pub begin_turn : Site → ℕ → Teardown → Turned
begin_turn s a (Closing f) = close_turn s a f (phase_of (state_at s) f)
begin_turn s a (Unplugging d) = unplug_turn s a (file_ahead (state_at s) d)

-- an actor that has torn a file sweeps it
abbrev pub tears_turn : Site → ℕ → Teardown → Option ℕ → Turned
tears_turn s a t None = begin_turn s a t
tears_turn s a t (Some f) = sweep_turn s a f t (killed_of s a)

abbrev pub teardown_turn : Site → ℕ → Option Teardown → Turned
teardown_turn s a None = silence s
teardown_turn s a (Some t) = tears_turn s a t (torn_by (state_at s) a)

-- An event.

abbrev pub turn_by : Site → ℕ → Option CallStep → Turned
turn_by s a None = teardown_turn s a (teardown_of s a)
turn_by s a (Some d) = call_turn s a d

-- the one event that an actor makes now: the next step of its call, or else of its teardown
unfoldable pub event_of : Site → ℕ → Turned
event_of s a = turn_by s a (next_of (state_at s) a (found_of s a) (kept_at s a))

-- How something begins. Want of memory is the one choice.

pub record OpensFile (s : Site) (a f d : ℕ) (t : Turned) : Type 0 where
  pub answer : Answer
  pub may : MayAnswer (open_refusal (state_at s) f d) answer
  pub turned : t ≡ record { site = with_entry s (entry.Open a f d answer); heard = ends_with event.Silent answer }

abbrev pub entered : Answer → Option Errno → Heard
entered a None = goes_on event.Began
entered a (Some e) = ends_with event.Silent a

pub record EntersCall (s : Site) (a f : ℕ) (request : Request) (t : Turned) : Type 0 where
  pub answer : Answer
  pub may : MayAnswer (enter_refusal (state_at s) f request) answer
  pub turned : t ≡ record { site = with_entry s (entry.Enter a f request answer); heard = entered answer (refusal_in answer) }

-- what has torn a file at its begin has begun
abbrev pub begun_event : Event → Event
begun_event event.Silent = event.Silent
begun_event event.Began = event.Began
begun_event (event.Stepped word refusal) = event.Stepped word refusal
begun_event (event.Torn f) = event.Began
begun_event (event.Killed x) = event.Killed x
begun_event (event.Went x) = event.Went x
begun_event (event.Dissociates f) = event.Dissociates f
begun_event (event.Closes f) = event.Closes f
begun_event (event.NotYet f calls) = event.NotYet f calls
begun_event (event.TornBy f by) = event.TornBy f by

abbrev pub begun : Turned → Turned
begun t = record { site = t.site; heard = record { event = begun_event t.heard.event; ends = t.heard.ends } }

abbrev pub closes : Site → ℕ → ℕ → Turned
closes s a f = begun (close_turn (with_teardown s a (Some (Closing f))) a f (phase_of (state_at s) f))

abbrev pub unplugs : Site → ℕ → ℕ → Turned
unplugs s a d =
    if is_unplugged (state_at s) d
    then record { site = s; heard = ends_with event.Silent (answer.Refused Io) }
    else record { site = with_teardown (with_entry s (entry.Unplug d)) a (Some (Unplugging d)); heard = goes_on event.Began }

abbrev pub Begins : Site → ℕ → Task → Turned → Type 0
Begins s a (task.Opens f d) t = OpensFile s a f d t
Begins s a (task.Calls f request) t = EntersCall s a f request t
Begins s a (task.Closes f) t = t ≡ closes s a f
Begins s a (task.Unplugs d) t = t ≡ unplugs s a d
