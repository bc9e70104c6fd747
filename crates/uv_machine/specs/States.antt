-- The machine's state: what the rules read in it.
use Rattle.std.specs.Prelude.{ℕ, zero, suc, Bool, true, false, not, ◌&&◌, ◌||◌, ◌==◌, ◌+◌, [], Option, None, Some, if◌then◌else◌, find, reverse, slice_get, unwrap_or, replicate}
use Rattle.std.specs.List.{list_any, enumerate_from}
use Rattle.uv_num.specs.declared.kind.Kind.{Kind}
use Rattle.uv_num.specs.Kind.{kind_place}
use Rattle.uv_num.specs.declared.limits.TheConstants.{ACTOR_PLACES, DEVICES, DRIVER, FILES, HANDLES, KINDS}
use Rattle.uv_machine.specs.declared.object.Object.{Object}
use Rattle.uv_machine.specs.declared.file.FilePhase.{FilePhase}
use Rattle.uv_machine.specs.declared.file.FilePhase.TheVariants as file
use Rattle.uv_machine.specs.declared.file.File.{File}
use Rattle.uv_machine.specs.declared.pool.Pool.{Pool}
use Rattle.uv_machine.specs.declared.call.InFlight.{InFlight}
use Rattle.uv_machine.specs.declared.state.State.{State}
use Rattle.uv_machine.specs.Objects.{has_id, in_file, has_handle, is_published_at, uses_object, is_live, is_doomed_in, is_standing_in}
use Rattle.uv_machine.specs.Cells.{home_index, full_pool}
use Rattle.uv_machine.specs.Plans.{reserves, locks, holds, is_call_on}

-- Calls.

abbrev pub the_call : Option (Option InFlight) → Option InFlight
the_call None = None
the_call (Some slot) = slot

-- the call in flight of an actor
abbrev pub call_of : State → ℕ → Option InFlight
call_of m c = the_call (slice_get m.calls c)

-- no call on the file is in flight
abbrev pub is_quiet : State → ℕ → Bool
is_quiet m f = not (list_any (is_call_on f) m.calls)

-- Objects.

abbrev pub object_with : State → ℕ → Option Object
object_with m o = find (has_id o) m.objects

-- the object that a look finds under a number
abbrev pub published : State → ℕ → ℕ → Option Object
published m f n = find (is_published_at f n) m.objects

-- some object uses this one
abbrev pub has_users : State → ℕ → Bool
has_users m o = list_any (uses_object o) m.objects

-- a call holds the object exclusively
abbrev pub is_excluded : State → ℕ → Bool
is_excluded m o = list_any (locks o) m.calls

-- a call of another actor holds the object
abbrev pub holds_beside : ℕ → ℕ → ℕ × Option InFlight → Bool
holds_beside c o slot = not (slot.0 == c) && holds o slot.1

abbrev pub has_others : State → ℕ → ℕ → Bool
has_others m c o = list_any (holds_beside c o) (enumerate_from 0 m.calls)

-- Handle numbers.

-- the number is an object's or set aside for a call
abbrev pub is_taken : State → ℕ → ℕ → Bool
is_taken m f n = list_any (has_handle f n) m.objects || list_any (reserves f n) m.calls

-- the least number that isn't taken, among so many from n on
unfoldable pub least_from : (ℕ → Bool) → ℕ → ℕ → Option ℕ
least_from taken n zero = None
least_from taken n (suc more) = if taken n then least_from taken (n + 1) more else Some n

abbrev pub least_free : State → ℕ → Option ℕ
least_free m f = least_from (is_taken m f) 0 HANDLES

-- Cells.

abbrev pub home_of_kind : Option Pool → Option ℕ
home_of_kind None = None
home_of_kind (Some pool) = home_index pool

-- the cell that a new object of the kind gets
abbrev pub home_cell : State → Kind → Option ℕ
home_cell m kind = home_of_kind (slice_get m.pools (kind_place kind))

-- Files and devices.

abbrev pub phase_in : Option File → FilePhase
phase_in None = file.Fresh
phase_in (Some x) = x.phase

abbrev pub phase_of : State → ℕ → FilePhase
phase_of m f = phase_in (slice_get m.files f)

abbrev pub device_in : Option File → ℕ
device_in None = 0
device_in (Some x) = x.device

abbrev pub device_of : State → ℕ → ℕ
device_of m f = device_in (slice_get m.files f)

-- the file has an event that wasn't taken
abbrev pub event_in : Option File → Bool
event_in None = false
event_in (Some x) = x.event

abbrev pub has_event : State → ℕ → Bool
has_event m f = event_in (slice_get m.files f)

abbrev pub is_unplugged : State → ℕ → Bool
is_unplugged m d = not (unwrap_or (slice_get m.plugged d) false)

abbrev pub is_fresh : FilePhase → Bool
is_fresh file.Fresh = true
is_fresh file.Open = false
is_fresh (file.Tearing by) = false
is_fresh file.Dissociated = false
is_fresh file.Closed = false

abbrev pub is_open : FilePhase → Bool
is_open file.Fresh = false
is_open file.Open = true
is_open (file.Tearing by) = false
is_open file.Dissociated = false
is_open file.Closed = false

-- calls may enter
abbrev pub is_callable : FilePhase → Bool
is_callable file.Fresh = false
is_callable file.Open = true
is_callable (file.Tearing by) = false
is_callable file.Dissociated = true
is_callable file.Closed = false

abbrev pub is_tearing : FilePhase → Bool
is_tearing file.Fresh = false
is_tearing file.Open = false
is_tearing (file.Tearing by) = true
is_tearing file.Dissociated = false
is_tearing file.Closed = false

-- the driver is tearing it down
abbrev pub is_removing : FilePhase → Bool
is_removing file.Fresh = false
is_removing file.Open = false
is_removing (file.Tearing by) = by == DRIVER
is_removing file.Dissociated = false
is_removing file.Closed = false

abbrev pub is_dissociated : FilePhase → Bool
is_dissociated file.Fresh = false
is_dissociated file.Open = false
is_dissociated (file.Tearing by) = false
is_dissociated file.Dissociated = true
is_dissociated file.Closed = false

-- it is being closed: not torn by the driver
abbrev pub is_closing : FilePhase → Bool
is_closing file.Fresh = false
is_closing file.Open = false
is_closing (file.Tearing by) = not (by == DRIVER)
is_closing file.Dissociated = false
is_closing file.Closed = false

-- Teardown.

-- the object of the file is live and nothing uses it
abbrev pub can_go : State → ℕ → Object → Bool
can_go m f x = in_file f x && (is_live x.phase && not (has_users m x.id))

-- the newest object of the file that can go
abbrev pub newest_free : State → ℕ → Option Object
newest_free m f = find (can_go m f) (reverse m.objects)

-- an object of the file is doomed
abbrev pub has_doomed : State → ℕ → Bool
has_doomed m f = list_any (is_doomed_in f) m.objects

-- an object of the file has not been released
abbrev pub has_standing : State → ℕ → Bool
has_standing m f = list_any (is_standing_in f) m.objects

-- The state in which nothing has happened.

abbrev pub fresh_file : File
fresh_file = record { phase = file.Fresh; device = 0; client = 0; event = false }

unfoldable pub start : State
start = record {
  plugged = replicate DEVICES true;
  files = replicate FILES fresh_file;
  objects = [];
  made = 0;
  calls = replicate ACTOR_PLACES None;
  pools = replicate KINDS full_pool;
}
