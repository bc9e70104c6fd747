-- Cells by their places, and slots by actors or files. A place that isn't there holds nothing, and a change of it changes
-- nothing.
use Rattle.std.specs.Prelude.{ℕ, Option, None, Some, List, slice_get, option_map}
use Rattle.uv_num.specs.Place.{at_place}
use Rattle.uv_world.specs.declared.cells.Cell.{Cell}

-- a cell in which nothing was ever planted
abbrev pub empty_cell : {T : Type 0} → Cell T
empty_cell = record { generation = 0; value = None }

-- what a cell holds
abbrev pub cell_value : {T : Type 0} → Option (Cell T) → Option T
cell_value None = None
cell_value (Some cell) = cell.value

abbrev pub value_of_cell : {T : Type 0} → List (Cell T) → ℕ → Option T
value_of_cell cells at = cell_value (slice_get cells at)

abbrev pub value_if : {T : Type 0} → List (Cell T) → Option ℕ → Option T
value_if cells None = None
value_if cells (Some at) = value_of_cell cells at

abbrev pub cell_planted : {T : Type 0} → ℕ → T → Cell T → Cell T
cell_planted generation value cell = record { generation = generation; value = Some value }

abbrev pub cell_emptied : {T : Type 0} → Cell T → Cell T
cell_emptied cell = record cell { value = None }

abbrev pub cell_filled : {T : Type 0} → T → Cell T → Cell T
cell_filled value cell = record cell { value = Some value }

abbrev pub cell_changed_by : {T : Type 0} → (T → T) → Cell T → Cell T
cell_changed_by f cell = record cell { value = option_map f cell.value }

-- a value is planted at a generation
abbrev pub cells_planted : {T : Type 0} → List (Cell T) → ℕ → ℕ → T → List (Cell T)
cells_planted cells at generation value = at_place cells at (cell_planted generation value)

-- what a cell holds is taken out; its generation stays
abbrev pub cells_emptied : {T : Type 0} → List (Cell T) → ℕ → List (Cell T)
cells_emptied cells at = at_place cells at cell_emptied

abbrev pub cells_emptied_if : {T : Type 0} → List (Cell T) → Option ℕ → List (Cell T)
cells_emptied_if cells None = cells
cells_emptied_if cells (Some at) = cells_emptied cells at

-- something is put into a cell, whose generation stays
abbrev pub cells_filled : {T : Type 0} → List (Cell T) → ℕ → T → List (Cell T)
cells_filled cells at value = at_place cells at (cell_filled value)

abbrev pub cells_filled_if : {T : Type 0} → List (Cell T) → Option ℕ → Option T → List (Cell T)
cells_filled_if cells None value = cells
cells_filled_if cells (Some at) None = cells
cells_filled_if cells (Some at) (Some value) = cells_filled cells at value

-- what a cell holds is changed, if it holds anything
abbrev pub cells_changed : {T : Type 0} → List (Cell T) → ℕ → (T → T) → List (Cell T)
cells_changed cells at f = at_place cells at (cell_changed_by f)

abbrev pub slot_value : {T : Type 0} → Option (Option T) → Option T
slot_value None = None
slot_value (Some slot) = slot

-- what lies in a slot
abbrev pub value_of_slot : {T : Type 0} → List (Option T) → ℕ → Option T
value_of_slot slots at = slot_value (slice_get slots at)

abbrev pub slot_set : {T : Type 0} → Option T → Option T → Option T
slot_set now before = now

-- something, or nothing, is put into a slot
abbrev pub slots_set : {T : Type 0} → List (Option T) → ℕ → Option T → List (Option T)
slots_set slots at now = at_place slots at (slot_set now)
