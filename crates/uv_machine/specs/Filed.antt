-- Files in use: what is true of the files of objects and calls, of who tears a file, and of what windows use.
use Rattle.std.specs.Prelude.{ℕ, Bool, true, false, ◌≡◌, List, Some}
use Rattle.uv_num.specs.declared.ids.Ids.{Ids}
use Rattle.uv_num.specs.declared.ids.Ids.TheVariants.{Empty, One, Two, Three, Four}
use Rattle.uv_num.specs.declared.kind.Kind.TheVariants.{Mw}
use Rattle.uv_machine.specs.declared.entry.Entry.{Entry}
use Rattle.uv_machine.specs.declared.file.FilePhase.{FilePhase}
use Rattle.uv_machine.specs.declared.file.FilePhase.TheVariants as file
use Rattle.uv_machine.specs.declared.object.Object.{Object}
use Rattle.uv_machine.specs.declared.call.InFlight.{InFlight}
use Rattle.uv_machine.specs.declared.state.State.{State}
use Rattle.uv_machine.specs.Objects.{is_husk}
use Rattle.uv_machine.specs.States.{call_of, phase_of}
use Rattle.uv_machine.specs.Histories.{IsActor, IsLegal, state_of}
use Rattle.uv_machine.specs.Reached.{IsIn}

-- the file was never opened, or is closed
abbrev pub is_over : FilePhase → Bool
is_over file.Fresh = true
is_over file.Open = false
is_over (file.Tearing by) = false
is_over file.Dissociated = false
is_over file.Closed = true

-- objects and calls are of files in use
pub record Filed (m : State) : Type 0 where
  pub objects : (x : Object) → IsIn x m.objects → is_over (phase_of m x.file) ≡ false
  pub calls : (b : ℕ) (k : InFlight) → call_of m b ≡ Some k → is_over (phase_of m k.file) ≡ false

abbrev pub LegalIsFiled : Type 0
LegalIsFiled = (h : List Entry) → IsLegal h → Filed (state_of h)

-- a file that is torn is torn by an actor
abbrev pub TornWell : State → Type 0
TornWell m = (f b : ℕ) → phase_of m f ≡ file.Tearing b → IsActor b

abbrev pub LegalTornWell : Type 0
LegalTornWell = (h : List Entry) → IsLegal h → TornWell (state_of h)

-- a window that isn't a husk uses something
abbrev pub has_one : Ids → Bool
has_one Empty = false
has_one (One a) = true
has_one (Two a b) = true
has_one (Three a b c) = true
has_one (Four a b c d) = true

abbrev pub HasDomain : Object → Type 0
HasDomain x = x.kind ≡ Mw → is_husk x.phase ≡ false → has_one x.uses ≡ true

abbrev pub HasDomains : List Object → Type 0
HasDomains objects = (x : Object) → IsIn x objects → HasDomain x

abbrev pub LegalHasDomains : Type 0
LegalHasDomains = (h : List Entry) → IsLegal h → HasDomains (state_of h).objects
