-- The handle tables of the files, as functions of the state.
use Rattle.std.specs.Prelude.{ℕ, Bool, true, ◌≡◌, List, [], Option, None, Some, length, slice_get, if◌then◌else◌}
use Rattle.uv_num.specs.declared.limits.TheConstants.{HANDLES}
use Rattle.uv_machine.specs.declared.object.Object.{Object}
use Rattle.uv_machine.specs.declared.state.State.{State}
use Rattle.uv_machine.specs.States.{published, is_taken}
use Rattle.uv_handles.specs.declared.slot.Slot.{Slot}
use Rattle.uv_handles.specs.declared.slot.Slot.TheVariants.{Free, Reserved, Published}
use Rattle.uv_num.specs.Place.{at_place}
use Rattle.uv_handles.specs.Table.{slot_in, is_reserved_in, empty_table, least_free_in, published_at}

-- the table of a file, empty where there is no such file
abbrev pub table_in : Option (List Slot) → List Slot
table_in None = []
table_in (Some table) = table

abbrev pub table_at : List (List Slot) → ℕ → List Slot
table_at tables f = table_in (slice_get tables f)

-- the least number that isn't taken, where each number is free if there is no such file
abbrev pub least_at : Option (List Slot) → Option ℕ
least_at None = Some 0
least_at (Some table) = least_free_in table

-- a table has all its numbers
abbrev pub HasAllNumbers : Option (List Slot) → Type 0
HasAllNumbers None = Unit {0}
HasAllNumbers (Some table) = length table ≡ HANDLES

-- What stands at a number of a file: the object that a look finds there, or else that the number is set aside, for a call or for
-- an object that isn't committed, or nothing.

abbrev pub slot_for : Option Object → Bool → Slot
slot_for (Some x) taken = Published x.id
slot_for None taken = if taken then Reserved else Free

abbrev pub slot_on : State → ℕ → ℕ → Slot
slot_on m f n = slot_for (published m f n) (is_taken m f n)

-- each table has at each number what stands there
abbrev pub AreTables : List (List Slot) → State → Type 0
AreTables tables m = (f n : ℕ) → slot_in (table_at tables f) n ≡ slot_on m f n

-- a table that was cleared
abbrev pub cleared : List Slot → List Slot
cleared table = empty_table

-- the number of an object is set aside in its file's table
abbrev pub IsSetAside : List (List Slot) → Option Object → Type 0
IsSetAside tables None = Unit {0}
IsSetAside tables (Some x) = is_reserved_in (table_at tables x.file) x.handle ≡ true

-- the tables in which an object is published under its number
abbrev pub published_with : Option Object → List (List Slot) → List (List Slot)
published_with None tables = tables
published_with (Some x) tables = at_place tables x.file (published_at x.handle x.id)
