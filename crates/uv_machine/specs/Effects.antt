-- What an entry makes of the state, beginning with the steps of calls.
use Rattle.std.specs.Prelude.{ℕ, Bool, true, false, not, ◌==◌, ◌+◌, nat_lt, List, [], ◌∷◌, ◌++◌, Option, None, Some, if◌then◌else◌, length, map, filter, slice_get, unwrap_or, option_map}
use Rattle.uv_num.specs.declared.kind.Kind.{Kind}
use Rattle.uv_num.specs.Kind.{kind_place}
use Rattle.uv_num.specs.Place.{at_place}
use Rattle.uv_num.specs.declared.errno.Errno.{Errno}
use Rattle.uv_num.specs.declared.request.Role.{Role}
use Rattle.uv_num.specs.declared.request.Role.TheVariants.{Creates, Destroys, Acts}
use Rattle.uv_num.specs.Request.{role_of}
use Rattle.uv_num.specs.declared.request.Act.TheVariants.{Modify, Query, Bind, Unbind, Async}
use Rattle.uv_num.specs.declared.request.Act as request
use Rattle.uv_num.specs.declared.limits.TheConstants.{NONE, MOST_OBJECTS}
use Rattle.uv_machine.specs.declared.entry.Word.{Word}
use Rattle.uv_machine.specs.declared.entry.Word.TheVariants.{Reserve, Look, Make, Commit, Act, Lock, Check, Finish, Abort, Free, Exit}
use Rattle.uv_machine.specs.declared.entry.Answer.{Answer}
use Rattle.uv_machine.specs.declared.entry.Answer.TheVariants as answer
use Rattle.uv_machine.specs.declared.object.Phase.TheVariants as phase
use Rattle.uv_machine.specs.declared.object.Binding.{Binding}
use Rattle.uv_machine.specs.declared.object.Object.{Object}
use Rattle.uv_machine.specs.declared.object.Change.{Change}
use Rattle.uv_machine.specs.declared.object.Change.TheVariants.{ToLive, ToDoomed, ToHusk, ToBound}
use Rattle.uv_machine.specs.declared.file.FilePhase.{FilePhase}
use Rattle.uv_machine.specs.declared.file.FilePhase.TheVariants as file
use Rattle.uv_machine.specs.declared.file.File.{File}
use Rattle.uv_machine.specs.declared.file.FileChange.{FileChange}
use Rattle.uv_machine.specs.declared.file.FileChange.TheVariants.{Opens, Goes, TakesEvent, Dissociates}
use Rattle.uv_machine.specs.declared.pool.Pool.{Pool}
use Rattle.uv_machine.specs.declared.call.InFlight.{InFlight}
use Rattle.uv_machine.specs.declared.state.State.{State}
use Rattle.uv_machine.specs.Objects.{has_id, in_file, is_doomed, on_object}
use Rattle.uv_machine.specs.Cells.{drawn, buried_at, generation_at}
use Rattle.uv_machine.specs.Plans.{moved_on, with_refusal, with_number, with_look, with_made, with_outcome, with_lock, without_lock, without_number, without_look, acted_on, looked_at}
use Rattle.uv_machine.specs.States.{object_with, least_free, home_cell}

-- The parts.

abbrev pub refusal_in : Answer → Option Errno
refusal_in answer.Ok = None
refusal_in (answer.Made handle index generation) = None
refusal_in (answer.State state index) = None
refusal_in answer.Event = None
refusal_in (answer.Kept kept) = None
refusal_in (answer.Refused e) = Some e

-- an actor's call after a step
abbrev pub with_call : State → ℕ → (InFlight → InFlight) → State
with_call m c f = record m { calls = at_place m.calls c (option_map f) }

abbrev pub no_call : Option InFlight → Option InFlight
no_call slot = None

-- an actor's call has ended
abbrev pub left : State → ℕ → State
left m c = record m { calls = at_place m.calls c no_call }

abbrev pub with_object : State → ℕ → Change → State
with_object m o change = record m { objects = map (on_object o change) m.objects }

abbrev pub with_file : State → ℕ → (File → File) → State
with_file m f change = record m { files = at_place m.files f change }

abbrev pub with_pool : State → Kind → (Pool → Pool) → State
with_pool m kind f = record m { pools = at_place m.pools (kind_place kind) f }

-- an object's cell is buried
abbrev pub with_burial : State → Object → State
with_burial m x = with_pool m x.kind (buried_at x.index)

abbrev pub not_with_id : ℕ → Object → Bool
not_with_id o x = not (has_id o x)

-- an object has left, and its handle with it
abbrev pub without_object : State → ℕ → State
without_object m o = record m { objects = filter (not_with_id o) m.objects }

-- The steps.

-- a number that a call sets aside
abbrev pub reserve : State → ℕ → InFlight → State
reserve m c call = with_call m c (with_number (least_free m call.file))

-- ids end at NONE, which names no object
abbrev pub next_id : ℕ → ℕ
next_id n = if n == NONE then n else n + 1

-- the object that a call makes, in a cell of this generation: it uses what the call looks at
abbrev pub new_object : State → InFlight → Kind → ℕ → ℕ → Object
new_object m call kind index generation =
    record {
      id = m.made;
      kind = kind;
      file = call.file;
      handle = unwrap_or call.reserved NONE;
      request = call.request;
      uses = call.looked;
      binding = None;
      index = index;
      generation = generation;
      phase = phase.Made;
    }

-- the exit of a create tells the new object's handle, cell and generation
abbrev pub made_outcome : Object → Answer
made_outcome x = answer.Made x.handle x.index x.generation

-- there is room for as many objects as there are handles; a history that is legal never lacks it
abbrev pub with_room_for : Object → List Object → List Object
with_room_for x objects = if nat_lt (length objects) MOST_OBJECTS then objects ++ x ∷ [] else objects

-- a new object: its cell goes out, and its call holds it
abbrev pub with_new : State → ℕ → Object → State
with_new m c x =
    record m {
      objects = with_room_for x m.objects;
      made = next_id m.made;
      pools = at_place m.pools (kind_place x.kind) (drawn x.index);
      calls = at_place m.calls c (option_map (with_made x.id (made_outcome x)));
    }

-- the generation of a cell of the kind
abbrev pub generation_in : ℕ → Option Pool → ℕ
generation_in index None = 0
generation_in index (Some pool) = generation_at index pool

abbrev pub make_at : State → ℕ → InFlight → Kind → Option ℕ → State
make_at m c call kind None = m
make_at m c call kind (Some index) = with_new m c (new_object m call kind index (generation_in index (slice_get m.pools (kind_place kind))))

abbrev pub make : State → ℕ → InFlight → Role → State
make m c call (Creates kind) = make_at m c call kind (home_cell m kind)
make m c call (Destroys asked) = m
make m c call (Acts act) = m

abbrev pub commit : State → ℕ → ℕ → State
commit m c o = with_call (with_object m o ToLive) c without_lock

-- what a window is bound to
abbrev pub binding_of : InFlight → ℕ → ℕ → ℕ → Binding
binding_of call offset length access = record { region = looked_at 1 call; offset = offset; length = length; access = access }

-- the event of a file is taken
abbrev pub event_taken : File → File
event_taken x = record x { event = false }

-- an act, whose answer the exit tells
abbrev pub act : State → ℕ → InFlight → Answer → request.Act → State
act m c call a (Modify to attrs) = with_call m c (with_outcome a)
act m c call a Query = with_call m c (with_outcome a)
act m c call a (Bind offset length access) = with_call (with_object m (acted_on call) (ToBound (Some (binding_of call offset length access)))) c (with_outcome a)
act m c call a (Unbind offset length access) = with_call (with_object m (acted_on call) (ToBound None)) c (with_outcome a)
act m c call a Async = with_call (with_file m call.file event_taken) c (with_outcome a)

abbrev pub act_by : State → ℕ → InFlight → Answer → Role → State
act_by m c call a (Creates kind) = m
act_by m c call a (Destroys asked) = m
act_by m c call a (Acts what) = act m c call a what

abbrev pub lock : State → ℕ → ℕ → State
lock m c o = with_call m c (with_lock o)

abbrev pub check : State → ℕ → ℕ → State
check m c o = with_call (with_object m o ToDoomed) c moved_on

-- the cell of an object that was doomed is buried; a husk's was before
abbrev pub buried_if_doomed : State → Option Object → State
buried_if_doomed m None = m
buried_if_doomed m (Some x) = if is_doomed x.phase then with_burial m x else m

abbrev pub finish : State → ℕ → ℕ → State
finish m c o = with_call (without_object (buried_if_doomed m (object_with m o)) o) c without_lock

abbrev pub unless_refused : State → ℕ → Option Errno → State → State
unless_refused m c None fine = fine
unless_refused m c (Some e) fine = with_call m c (with_refusal e)

abbrev pub stepped : State → ℕ → InFlight → Word → ℕ → Answer → State
stepped m c call Reserve o a = unless_refused m c (refusal_in a) (reserve m c call)
stepped m c call Look o a = unless_refused m c (refusal_in a) (with_call m c (with_look o))
stepped m c call Make o a = unless_refused m c (refusal_in a) (make m c call (role_of call.request))
stepped m c call Commit o a = unless_refused m c (refusal_in a) (commit m c o)
stepped m c call Act o a = unless_refused m c (refusal_in a) (act_by m c call a (role_of call.request))
stepped m c call Lock o a = unless_refused m c (refusal_in a) (lock m c o)
stepped m c call Check o a = unless_refused m c (refusal_in a) (check m c o)
stepped m c call Finish o a = unless_refused m c (refusal_in a) (finish m c o)
stepped m c call Abort o a = unless_refused m c (refusal_in a) (with_call m c without_number)
stepped m c call Free o a = unless_refused m c (refusal_in a) (with_call m c without_look)
stepped m c call Exit o a = left m c

abbrev pub after_step : State → ℕ → Option InFlight → Word → ℕ → Answer → State
after_step m c None w o a = m
after_step m c (Some call) w o a = stepped m c call w o a

-- The entries that no call makes.

abbrev pub opened : ℕ → ℕ → File → File
opened client device x = record { phase = file.Open; device = device; client = client; event = false }

abbrev pub in_phase : FilePhase → File → File
in_phase p x = record x { phase = p }

abbrev pub unless_answered : State → Option Errno → State → State
unless_answered m None fine = fine
unless_answered m (Some e) fine = m

abbrev pub put_call : InFlight → Option InFlight → Option InFlight
put_call call slot = Some call

abbrev pub gone_from : State → ℕ → Option Object → State
gone_from m o None = m
gone_from m o (Some x) = with_burial (with_object m o ToHusk) x

abbrev pub not_in_file : ℕ → Object → Bool
not_in_file f x = not (in_file f x)

abbrev pub after_open : State → ℕ → ℕ → ℕ → Answer → State
after_open m c f d a = unless_answered m (refusal_in a) (with_file m f (opened c d))

abbrev pub after_enter : State → ℕ → ℕ → InFlight → Answer → State
after_enter m c f call a = unless_answered m (refusal_in a) (record m { calls = at_place m.calls c (put_call call) })

abbrev pub after_closed : State → ℕ → State
after_closed m f = record m { files = at_place m.files f (in_phase file.Closed); objects = filter (not_in_file f) m.objects }

abbrev pub without_plug : Bool → Bool
without_plug plugged = false

-- a device is pulled
abbrev pub after_unplug : State → ℕ → State
after_unplug m d = record m { plugged = at_place m.plugged d without_plug }

-- the driver is through with a file, which is told so by an event
abbrev pub dissociated : File → File
dissociated x = record x { phase = file.Dissociated; event = true }

-- what an entry makes of a file
abbrev pub file_changed : FileChange → File → File
file_changed (Opens client device) = opened client device
file_changed (Goes p) = in_phase p
file_changed TakesEvent = event_taken
file_changed Dissociates = dissociated
