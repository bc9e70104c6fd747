-- The objects that a history makes, dooms and releases, and the states that it moves queue pairs to.
use Rattle.std.specs.Prelude.{ℕ, Bool, false, ◌&&◌, ◌||◌, ◌==◌, List, [], ◌∷◌, ◌++◌, Option, None, Some, Result, Ok, Err, if◌then◌else◌, filter}
use Rattle.std.specs.List.{list_any}
use Rattle.uv_num.specs.declared.errno.Errno.{Errno}
use Rattle.uv_num.specs.declared.kind.Kind.{Kind}
use Rattle.uv_num.specs.declared.qp.QpState.{QpState}
use Rattle.uv_num.specs.declared.qp.QpState.TheVariants.{Reset}
use Rattle.uv_num.specs.declared.request.Act.{Act}
use Rattle.uv_num.specs.declared.request.Act.TheVariants as act
use Rattle.uv_num.specs.declared.request.Role.{Role}
use Rattle.uv_num.specs.declared.request.Role.TheVariants.{Creates, Destroys, Acts}
use Rattle.uv_num.specs.Kind.{kind_place}
use Rattle.uv_num.specs.Modify.{modify_of}
use Rattle.uv_num.specs.Request.{role_of}
use Rattle.uv_machine.specs.declared.entry.Entry.{Entry}
use Rattle.uv_machine.specs.declared.entry.Entry.TheVariants.{Open, Enter, Step, Unplug, Tear, Kill, Gone, Dissociated, Closed}
use Rattle.uv_machine.specs.declared.entry.Word.{Word}
use Rattle.uv_machine.specs.declared.entry.Word.TheVariants as word
use Rattle.uv_machine.specs.declared.object.Object.{Object}
use Rattle.uv_machine.specs.declared.call.InFlight.{InFlight}
use Rattle.uv_machine.specs.declared.state.State.{State}
use Rattle.uv_machine.specs.Objects.{is_kind, is_made, is_live, is_doomed}
use Rattle.uv_machine.specs.States.{call_of, object_with, start}
use Rattle.uv_machine.specs.Acts.{service_of_found, found_or}
use Rattle.uv_machine.specs.Effects.{refusal_in}
use Rattle.uv_machine.specs.Histories.{after}

-- The objects ever made.

-- a step that is refused makes nothing
abbrev pub made_by : Option Errno → Option Object → Option Object
made_by None x = x
made_by (Some e) x = None

-- what a step made
abbrev pub step_made : Word → Option Errno → Option Object → Option Object
step_made word.Reserve e x = None
step_made word.Look e x = None
step_made word.Make e x = made_by e x
step_made word.Commit e x = None
step_made word.Act e x = None
step_made word.Lock e x = None
step_made word.Check e x = None
step_made word.Finish e x = None
step_made word.Abort e x = None
step_made word.Free e x = None
step_made word.Exit e x = None

-- the new object of an entry
abbrev pub new_by : State → Entry → Option Object
new_by m (Open c f d a) = None
new_by m (Enter c f request a) = None
new_by m (Step c w o found a) = step_made w (refusal_in a) (object_with (after m (Step c w o found a)) o)
new_by m (Unplug d) = None
new_by m (Tear f by) = None
new_by m (Kill o) = None
new_by m (Gone o kept) = None
new_by m (Dissociated f) = None
new_by m (Closed f) = None

-- an object that may be there, as a list
abbrev pub listed : Option Object → List Object
listed None = []
listed (Some x) = x ∷ []

abbrev pub made_from : State → List Entry → List Object
made_from m [] = []
made_from m (e ∷ es) = listed (new_by m e) ++ made_from (after m e) es

-- the objects ever made, in order, each as its Make left it
abbrev pub made_in : List Entry → List Object
made_in h = made_from start h

-- the object has this cell of the kind in this place, or had it
abbrev pub is_at : ℕ → ℕ → Object → Bool
is_at k i x = (kind_place x.kind == k) && (x.index == i)

-- the objects that were made in a cell, in order: its lives
abbrev pub lives_at : List Entry → ℕ → ℕ → List Object
lives_at h k i = filter (is_at k i) (made_in h)

abbrev pub is_at_some : ℕ → ℕ → Option Object → Bool
is_at_some k i None = false
is_at_some k i (Some x) = is_at k i x

-- the entry gives the cell to a new object
abbrev pub gives : State → ℕ → ℕ → Entry → Bool
gives m k i e = is_at_some k i (new_by m e)

-- one of the entries does
abbrev pub gives_from : State → ℕ → ℕ → List Entry → Bool
gives_from m k i [] = false
gives_from m k i (e ∷ es) = gives m k i e || gives_from (after m e) k i es

-- the object of this cell and generation is made or live
abbrev pub has_live_cell : Kind → ℕ → ℕ → Object → Bool
has_live_cell kind index generation x =
    is_kind x.kind kind && ((x.index == index) && ((x.generation == generation) && (is_made x.phase || is_live x.phase)))

-- a kind, an index and a generation name an object that is made or live
abbrev pub is_live_cell : State → Kind → ℕ → ℕ → Bool
is_live_cell m kind index generation = list_any (has_live_cell kind index generation) m.objects

-- The objects that are doomed and released.

abbrev pub if_live : Option Object → Option Object
if_live None = None
if_live (Some x) = if is_live x.phase then Some x else None

abbrev pub if_doomed : Option Object → Option Object
if_doomed None = None
if_doomed (Some x) = if is_doomed x.phase then Some x else None

-- a Check dooms what is live, and no husk
abbrev pub step_doomed : Word → Option Errno → Option Object → Option Object
step_doomed word.Reserve e x = None
step_doomed word.Look e x = None
step_doomed word.Make e x = None
step_doomed word.Commit e x = None
step_doomed word.Act e x = None
step_doomed word.Lock e x = None
step_doomed word.Check e x = made_by e (if_live x)
step_doomed word.Finish e x = None
step_doomed word.Abort e x = None
step_doomed word.Free e x = None
step_doomed word.Exit e x = None

-- the object that an entry dooms, as it was before
abbrev pub doomed_by : State → Entry → Option Object
doomed_by m (Open c f d a) = None
doomed_by m (Enter c f request a) = None
doomed_by m (Step c w o found a) = step_doomed w (refusal_in a) (object_with m o)
doomed_by m (Unplug d) = None
doomed_by m (Tear f by) = None
doomed_by m (Kill o) = object_with m o
doomed_by m (Gone o kept) = None
doomed_by m (Dissociated f) = None
doomed_by m (Closed f) = None

-- a Finish releases what is doomed, and no husk
abbrev pub step_released : Word → Option Object → Option Object
step_released word.Reserve x = None
step_released word.Look x = None
step_released word.Make x = None
step_released word.Commit x = None
step_released word.Act x = None
step_released word.Lock x = None
step_released word.Check x = None
step_released word.Finish x = if_doomed x
step_released word.Abort x = None
step_released word.Free x = None
step_released word.Exit x = None

-- the object that an entry releases, as it was before
abbrev pub released_by : State → Entry → Option Object
released_by m (Open c f d a) = None
released_by m (Enter c f request a) = None
released_by m (Step c w o found a) = step_released w (object_with m o)
released_by m (Unplug d) = None
released_by m (Tear f by) = None
released_by m (Kill o) = None
released_by m (Gone o kept) = object_with m o
released_by m (Dissociated f) = None
released_by m (Closed f) = None

abbrev pub released_from : State → List Entry → List Object
released_from m [] = []
released_from m (e ∷ es) = listed (released_by m e) ++ released_from (after m e) es

-- the objects that a history releases, in order
abbrev pub released_in : List Entry → List Object
released_in h = released_from start h

-- Queue pairs.

abbrev pub state_in : Result QpState Errno → Option QpState
state_in (Ok to) = Some to
state_in (Err e) = None

-- the state to which an act moves its queue pair, from the one that it found
abbrev pub moved_to : Option Object → Option QpState → Act → Option QpState
moved_to x found (act.Modify to attrs) = state_in (modify_of (service_of_found x) (found_or found) to attrs)
moved_to x found act.Query = None
moved_to x found (act.Bind offset length access) = None
moved_to x found (act.Unbind offset length access) = None
moved_to x found act.Async = None

abbrev pub role_moves : Option Object → Option QpState → Role → Option QpState
role_moves x found (Creates kind) = None
role_moves x found (Destroys asked) = None
role_moves x found (Acts what) = moved_to x found what

abbrev pub call_moves : Option Object → Option QpState → Option InFlight → Option QpState
call_moves x found None = None
call_moves x found (Some call) = role_moves x found (role_of call.request)

-- the act of a step moves a queue pair where it isn't refused
abbrev pub step_moves : Word → Option Errno → Option QpState → Option QpState
step_moves word.Reserve e to = None
step_moves word.Look e to = None
step_moves word.Make e to = None
step_moves word.Commit e to = None
step_moves word.Act None to = to
step_moves word.Act (Some e) to = None
step_moves word.Lock e to = None
step_moves word.Check e to = None
step_moves word.Finish e to = None
step_moves word.Abort e to = None
step_moves word.Free e to = None
step_moves word.Exit e to = None

-- the state to which an entry moves the queue pair
abbrev pub moved_by : State → ℕ → Entry → Option QpState
moved_by m o (Open c f d a) = None
moved_by m o (Enter c f request a) = None
moved_by m o (Step c w i found a) = if i == o then step_moves w (refusal_in a) (call_moves (object_with m o) found (call_of m c)) else None
moved_by m o (Unplug d) = None
moved_by m o (Tear f by) = None
moved_by m o (Kill i) = None
moved_by m o (Gone i kept) = None
moved_by m o (Dissociated f) = None
moved_by m o (Closed f) = None

abbrev pub or_state : QpState → Option QpState → QpState
or_state before None = before
or_state before (Some to) = to

abbrev pub moved_from : State → ℕ → QpState → List Entry → QpState
moved_from m o before [] = before
moved_from m o before (e ∷ es) = moved_from (after m e) o (or_state before (moved_by m o e)) es

-- the state to which a queue pair was last moved; it is made in Reset
abbrev pub last_moved : List Entry → ℕ → QpState
last_moved h o = moved_from start o Reset h
