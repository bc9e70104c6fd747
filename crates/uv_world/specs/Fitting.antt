-- Cells beside the object graph: a cell holds something exactly while the object that it was given to is made or live.
use Rattle.std.specs.Prelude.{ℕ, Bool, true, false, ◌≡◌, ◌≤◌, ◌+◌, ◌==◌, ◌&&◌, List, [], Option, None, Some, map, length, is_some, option_map, slice_get}
use Rattle.uv_num.specs.declared.kind.Kind.{Kind}
use Rattle.uv_num.specs.declared.kind.Kind.TheVariants as kind
use Rattle.uv_num.specs.declared.limits.TheConstants.{CELLS}
use Rattle.uv_num.specs.Looks.{looks_of}
use Rattle.uv_num.specs.Ranges.{is_in_range}
use Rattle.uv_machine.specs.declared.call.InFlight.{InFlight}
use Rattle.uv_machine.specs.declared.entry.Entry.{Entry}
use Rattle.uv_machine.specs.declared.entry.Entry.TheVariants.{Open, Enter, Step, Unplug, Tear, Kill, Gone, Dissociated, Closed}
use Rattle.uv_machine.specs.declared.state.State.{State}
use Rattle.uv_machine.specs.Histories.{Allowed, IsLegal, state_of}
use Rattle.uv_machine.specs.Made.{is_live_cell}
use Rattle.uv_machine.specs.States.{call_of}
use Rattle.uv_world.specs.declared.cells.Cell.{Cell}
use Rattle.uv_world.specs.Holdings.{Held}
use Rattle.uv_world.specs.Stages.{Stage, first_stage, stage_then}
use Rattle.uv_world.specs.Waiting.{WaitsByCalls, tells_of_made}

-- Cells without what they hold.

abbrev pub something : {T : Type 0} → T → Unit {0}
something value = tt

abbrev pub outline : {T : Type 0} → Cell T → Cell (Unit {0})
outline cell = record { generation = cell.generation; value = option_map something cell.value }

-- the cells of a kind; a domain holds nothing, and has none
abbrev pub outlines : Held → Kind → List (Cell (Unit {0}))
outlines h kind.Pd = []
outlines h kind.Channel = map outline h.channels
outlines h kind.Cq = map outline h.rings
outlines h kind.Qp = map outline h.pairs
outlines h kind.Srq = map outline h.shared
outlines h kind.Ah = map outline h.addresses
outlines h kind.Mr = map outline h.regions
outlines h kind.Mw = map outline h.windows

abbrev pub has_content : Kind → Bool
has_content kind.Pd = false
has_content kind.Channel = true
has_content kind.Cq = true
has_content kind.Qp = true
has_content kind.Srq = true
has_content kind.Ah = true
has_content kind.Mr = true
has_content kind.Mw = true

-- the cell holds something under this generation
abbrev pub holds_under : ℕ → Option (Cell (Unit {0})) → Bool
holds_under g None = false
holds_under g (Some cell) = is_some cell.value && (cell.generation == g)

abbrev pub is_held : Held → Kind → ℕ → ℕ → Bool
is_held h k i g = holds_under g (slice_get (outlines h k) i)

-- a kind, an index and a generation name something that is held exactly where they name an object that is made or live
abbrev pub CellsFit : Held → State → Type 0
CellsFit h m = (k : Kind) (i g : ℕ) → has_content k ≡ true → is_held h k i g ≡ is_live_cell m k i g

-- each kind that holds something has so many cells
abbrev pub HasCells : Held → Type 0
HasCells h = (k : Kind) → has_content k ≡ true → length (outlines h k) ≡ CELLS

-- a call tells of a new object from its Make on alone
abbrev pub TellsAfterMake : InFlight → Type 0
TellsAfterMake call = tells_of_made call.outcome ≡ true → length (looks_of call.request) + 2 ≤ call.place

abbrev pub AllTellAfterMake : State → Type 0
AllTellAfterMake m = (c : ℕ) (call : InFlight) → call_of m c ≡ Some call → TellsAfterMake call

-- a legal history, whose objects are held in their cells
pub record StageFits (s : Stage) : Type 0 where
  pub legal : IsLegal s.history
  pub cells : HasCells s.held
  pub waits : WaitsByCalls s
  pub tell : AllTellAfterMake (state_of s.history)
  pub fit : CellsFit s.held (state_of s.history)

-- the call that makes a step is in its ranges
abbrev pub StepInRange : State → Entry → Type 0
StepInRange m (Open c f d a) = Unit {0}
StepInRange m (Enter c f request a) = Unit {0}
StepInRange m (Step c w o found a) = (call : InFlight) → call_of m c ≡ Some call → is_in_range call.request ≡ true
StepInRange m (Unplug d) = Unit {0}
StepInRange m (Tear f by) = Unit {0}
StepInRange m (Kill o) = Unit {0}
StepInRange m (Gone o kept) = Unit {0}
StepInRange m (Dissociated f) = Unit {0}
StepInRange m (Closed f) = Unit {0}

abbrev pub FirstFits : Type 0
FirstFits = StageFits first_stage

-- so a cell is live exactly while its object is
abbrev pub FittingGoesOn : Type 0
FittingGoesOn = (s : Stage) (e : Entry) → StageFits s → Allowed (state_of s.history) e → StepInRange (state_of s.history) e → StageFits (stage_then s e)
