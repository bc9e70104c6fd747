-- The store: what is kept beside the state, each an equation with the state.
use Rattle.std.specs.Prelude.{ℕ, ◌≡◌, List, Option, None, Some, length, find, slice_get}
use Rattle.uv_num.specs.declared.limits.TheConstants.{FILES}
use Rattle.uv_machine.specs.declared.entry.Entry.{Entry}
use Rattle.uv_machine.specs.declared.object.Object.{Object}
use Rattle.uv_machine.specs.declared.state.State.{State}
use Rattle.uv_machine.specs.Objects.{has_id, is_doomed_in, is_standing_in}
use Rattle.uv_machine.specs.Histories.{IsLegal, state_of}
use Rattle.uv_machine.specs.Reached.{IsRising}
use Rattle.uv_handles.specs.declared.slot.Slot.{Slot}
use Rattle.uv_store.specs.declared.mark.Mark.{Mark}
use Rattle.uv_store.specs.Counts.{AreCounts}
use Rattle.uv_store.specs.Marks.{mark_on, marks_by}
use Rattle.uv_store.specs.Tables.{AreTables}

-- Places.

-- ids rise along the objects
pub record Rises (objects : List Object) : Type 0 where
  pub top : ℕ
  pub rising : IsRising 0 objects top

-- the object with this id stands at this place
pub record StandsAtPlace (objects : List Object) (o i : ℕ) : Type 0 where
  pub item : Object
  pub at : slice_get objects i ≡ Some item
  pub id : item.id ≡ o

-- the place of the object with an id, none where there is no such object
abbrev pub AtPlace : List Object → ℕ → Option ℕ → Type 0
AtPlace objects o None = find (has_id o) objects ≡ None
AtPlace objects o (Some i) = StandsAtPlace objects o i

-- The whole.

-- a legal history leads to the state
pub record IsLegalState (m : State) : Type 0 where
  pub history : List Entry
  pub legal : IsLegal history
  pub is : m ≡ state_of history

-- The state is one that a legal history leads to. Each object has its mark, at the same place; each file has its table, and each
-- count is that of the objects of its file.
pub record IsStored (m : State) (marks : List Mark) (tables : List (List Slot)) (doomed standing : List ℕ) : Type 0 where
  pub legal : IsLegalState m
  pub marked : marks ≡ marks_by (mark_on m) m.objects
  pub files : length tables ≡ FILES
  pub tabled : AreTables tables m
  pub dooms : AreCounts doomed is_doomed_in m.objects
  pub stands : AreCounts standing is_standing_in m.objects
