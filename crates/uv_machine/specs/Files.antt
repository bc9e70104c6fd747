-- What a history says of files: how their phases go on, what stays of an opened file, and that where all files are over
-- nothing is left: no call, no object, and each object that was made was released.
use Rattle.std.specs.Prelude.{ℕ, Bool, true, false, not, ◌&&◌, ◌==◌, ◌≡◌, ◌≢◌, ◌<◌, ◌≤◌, ◌+◌, List, [], ◌∷◌, Option, None, Some, is_none, slice_get, count_by}
use Rattle.uv_num.specs.declared.kind.Kind.{Kind}
use Rattle.uv_num.specs.declared.limits.TheConstants.{DRIVER}
use Rattle.uv_num.specs.declared.request.Role.{Role}
use Rattle.uv_num.specs.declared.request.Role.TheVariants.{Creates, Destroys, Acts}
use Rattle.uv_num.specs.Request.{role_of}
use Rattle.uv_machine.specs.declared.entry.Entry.{Entry}
use Rattle.uv_machine.specs.declared.entry.Entry.TheVariants.{Open, Enter, Step, Unplug, Tear, Kill, Gone, Dissociated, Closed}
use Rattle.uv_machine.specs.declared.file.File.{File}
use Rattle.uv_machine.specs.declared.file.FilePhase.{FilePhase}
use Rattle.uv_machine.specs.declared.file.FilePhase.TheVariants as file
use Rattle.uv_machine.specs.declared.object.Object.{Object}
use Rattle.uv_machine.specs.declared.state.State.{State}
use Rattle.uv_machine.specs.Accounts.{one_if}
use Rattle.uv_machine.specs.Effects.{refusal_in}
use Rattle.uv_machine.specs.Histories.{Allowed, after, IsLegal, state_of}
use Rattle.uv_machine.specs.Laws.{IsIdle}
use Rattle.uv_machine.specs.Lives.{releases_in}
use Rattle.uv_machine.specs.Objects.{is_kind}
use Rattle.uv_machine.specs.Filed.{is_over}
use Rattle.uv_machine.specs.Made.{released_by}
use Rattle.uv_machine.specs.Reached.{IsIn}
use Rattle.uv_machine.specs.States.{phase_of, device_of, is_fresh, start}

-- The phases.

-- the client that opened a file
abbrev pub client_in : Option File → ℕ
client_in None = 0
client_in (Some x) = x.client

abbrev pub client_of_file : State → ℕ → ℕ
client_of_file m f = client_in (slice_get m.files f)

-- a phase stays, or goes on to the next one: a file is opened, torn, and then closed by who tears it down; the driver leaves
-- it dissociated, and then it may be torn once more, by another
abbrev pub goes_on_to : FilePhase → FilePhase → Bool
goes_on_to file.Fresh file.Fresh = true
goes_on_to file.Fresh file.Open = true
goes_on_to file.Fresh (file.Tearing by) = false
goes_on_to file.Fresh file.Dissociated = false
goes_on_to file.Fresh file.Closed = false
goes_on_to file.Open file.Fresh = false
goes_on_to file.Open file.Open = true
goes_on_to file.Open (file.Tearing by) = true
goes_on_to file.Open file.Dissociated = false
goes_on_to file.Open file.Closed = false
goes_on_to (file.Tearing by) file.Fresh = false
goes_on_to (file.Tearing by) file.Open = false
goes_on_to (file.Tearing by) (file.Tearing other) = by == other
goes_on_to (file.Tearing by) file.Dissociated = by == DRIVER
goes_on_to (file.Tearing by) file.Closed = not (by == DRIVER)
goes_on_to file.Dissociated file.Fresh = false
goes_on_to file.Dissociated file.Open = false
goes_on_to file.Dissociated (file.Tearing by) = not (by == DRIVER)
goes_on_to file.Dissociated file.Dissociated = true
goes_on_to file.Dissociated file.Closed = false
goes_on_to file.Closed file.Fresh = false
goes_on_to file.Closed file.Open = false
goes_on_to file.Closed (file.Tearing by) = false
goes_on_to file.Closed file.Dissociated = false
goes_on_to file.Closed file.Closed = true

abbrev pub PhaseGoesOn : Type 0
PhaseGoesOn = (m : State) (e : Entry) (f : ℕ) → Allowed m e → goes_on_to (phase_of m f) (phase_of (after m e) f) ≡ true

-- device and client of a file that was opened stay
abbrev pub OpenedStays : Type 0
OpenedStays =
    (m : State) (e : Entry) (f : ℕ) → Allowed m e → is_fresh (phase_of m f) ≡ false
    → (device_of (after m e) f ≡ device_of m f) × (client_of_file (after m e) f ≡ client_of_file m f)

-- a file that is torn down, or closed, was torn; and who closes one is another than the driver
pub record WasTorn (h : List Entry) (f : ℕ) : Type 0 where
  pub by : ℕ
  pub other : by ≢ DRIVER
  pub torn : IsIn (Tear f by) h

abbrev pub ClosedWasTorn : Type 0
ClosedWasTorn = (h : List Entry) (f : ℕ) → IsLegal h → phase_of (state_of h) f ≡ file.Closed → WasTorn h f

abbrev pub TearingWasTorn : Type 0
TearingWasTorn = (h : List Entry) (f by : ℕ) → IsLegal h → phase_of (state_of h) f ≡ file.Tearing by → IsIn (Tear f by) h

-- Files that are over.

-- each file was never opened, or is closed
abbrev pub AreOver : State → Type 0
AreOver m = (f : ℕ) → is_over (phase_of m f) ≡ true

-- where all files are over no call is in flight
abbrev pub OverIsIdle : Type 0
OverIsIdle = (h : List Entry) → IsLegal h → AreOver (state_of h) → IsIdle (state_of h)

-- and no object is left; each one that was made was released, once
abbrev pub OverIsEmpty : Type 0
OverIsEmpty = (h : List Entry) → IsLegal h → AreOver (state_of h) → (state_of h).objects ≡ []

abbrev pub MadeIsReleased : Type 0
MadeIsReleased = (h : List Entry) (o : ℕ) → IsLegal h → AreOver (state_of h) → o < (state_of h).made → releases_in h o ≡ 1

-- The releases of a kind.

abbrev pub is_of_kind : Kind → Option Object → Bool
is_of_kind kind None = false
is_of_kind kind (Some x) = is_kind x.kind kind

-- so many entries release an object of the kind
abbrev pub kind_releases_from : State → Kind → List Entry → ℕ
kind_releases_from m kind [] = 0
kind_releases_from m kind (e ∷ es) = one_if (is_of_kind kind (released_by m e)) + kind_releases_from (after m e) kind es

abbrev pub kind_releases : List Entry → Kind → ℕ
kind_releases h kind = kind_releases_from start kind h

abbrev pub creates_kind : Kind → Role → Bool
creates_kind kind (Creates other) = is_kind other kind
creates_kind kind (Destroys asked) = false
creates_kind kind (Acts act) = false

-- a call that creates an object of the kind entered
abbrev pub enters_for : Kind → Entry → Bool
enters_for kind (Open c f d a) = false
enters_for kind (Enter c f request a) = is_none (refusal_in a) && creates_kind kind (role_of request)
enters_for kind (Step c w o found a) = false
enters_for kind (Unplug d) = false
enters_for kind (Tear f by) = false
enters_for kind (Kill o) = false
enters_for kind (Gone o kept) = false
enters_for kind (Dissociated f) = false
enters_for kind (Closed f) = false

abbrev pub ReleasesBelowEnters : Type 0
ReleasesBelowEnters = (h : List Entry) (kind : Kind) → IsLegal h → kind_releases h kind ≤ count_by (enters_for kind) h
