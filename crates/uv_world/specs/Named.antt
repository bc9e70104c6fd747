-- Cells that a client names by their index and their generation, beside the object graph: calls of the data path make no entry.
use Rattle.std.specs.Prelude.{ℕ, ◌≡◌, ◌==◌, List, Option, None, Some, slice_get, if◌then◌else◌}
use Rattle.uv_num.specs.declared.kind.Kind.{Kind}
use Rattle.uv_num.specs.Place.{at_place}
use Rattle.uv_world.specs.declared.cells.Cell.{Cell}
use Rattle.uv_world.specs.declared.world.World.{World}
use Rattle.uv_world.specs.Celled.{cell_changed_by}
use Rattle.uv_world.specs.Fitting.{outlines}
use Rattle.uv_world.specs.Holdings.{Held}
use Rattle.uv_world.specs.Stages.{Stage}

-- what a cell holds under this generation
abbrev pub value_under : {T : Type 0} → ℕ → Option (Cell T) → Option T
value_under g None = None
value_under g (Some cell) = if cell.generation == g then cell.value else None

-- what an index and a generation name: nothing where the cell isn't live under that generation
abbrev pub value_named : {T : Type 0} → List (Cell T) → ℕ × ℕ → Option T
value_named cells name = value_under name.1 (slice_get cells name.0)

abbrev pub cell_under : {T : Type 0} → ℕ → (T → T) → Cell T → Cell T
cell_under g f cell = if cell.generation == g then cell_changed_by f cell else cell

-- what they name is changed, if they name anything
abbrev pub cells_under : {T : Type 0} → List (Cell T) → ℕ × ℕ → (T → T) → List (Cell T)
cells_under cells name f = at_place cells name.0 (cell_under name.1 f)

-- the history stays, and this is held
abbrev pub stage_holding : Stage → Held → Stage
stage_holding s h = record s { held = h }

-- the same cells hold something under the same generations, and the same waits to be planted
pub record SameCells (old new : Held) : Type 0 where
  pub outlined : (k : Kind) → outlines new k ≡ outlines old k
  pub pending : new.pending ≡ old.pending

-- contents alone have changed: neither the core nor what lies with the actors
pub record OnlyContents (old new : World) : Type 0 where
  pub core : new.core ≡ old.core
  pub retired : new.retired ≡ old.retired
  pub doomed : new.doomed ≡ old.doomed
