-- A file's handle table: what stands at each number, and what each call makes of the table.
use Rattle.std.specs.Prelude.{ℕ, Bool, true, false, not, List, Option, None, Some, position, replicate, slice_index_or, slice_set, is_some}
use Rattle.uv_num.specs.declared.limits.TheConstants.{HANDLES}
use Rattle.uv_handles.specs.declared.slot.Slot.{Slot}
use Rattle.uv_handles.specs.declared.slot.Slot.TheVariants.{Free, Reserved, Published}

-- What stands at a number.

-- nothing
abbrev pub is_free : Slot → Bool
is_free Free = true
is_free Reserved = false
is_free (Published object) = false

-- a call has set it aside
abbrev pub is_reserved : Slot → Bool
is_reserved Free = false
is_reserved Reserved = true
is_reserved (Published object) = false

-- the object that is published there
abbrev pub object_of : Slot → Option ℕ
object_of Free = None
object_of Reserved = None
object_of (Published object) = Some object

-- What a table says of a number.

-- behind the table's end every number is free, and none is given out
abbrev pub slot_in : List Slot → ℕ → Slot
slot_in table n = slice_index_or table n Free

-- the number is an object's or set aside for a call
abbrev pub is_taken_in : List Slot → ℕ → Bool
is_taken_in table n = not (is_free (slot_in table n))

-- the number is set aside for a call
abbrev pub is_reserved_in : List Slot → ℕ → Bool
is_reserved_in table n = is_reserved (slot_in table n)

-- the object that a lookup finds under the number
abbrev pub published_in : List Slot → ℕ → Option ℕ
published_in table n = object_of (slot_in table n)

-- an object is published under the number
abbrev pub is_published_in : List Slot → ℕ → Bool
is_published_in table n = is_some (published_in table n)

-- the least number that isn't taken
abbrev pub least_free_in : List Slot → Option ℕ
least_free_in table = position is_free table

-- What a table becomes.

-- no number is taken
unfoldable pub empty_table : List Slot
empty_table = replicate HANDLES Free

-- the number is set aside
abbrev pub reserved_at : ℕ → List Slot → List Slot
reserved_at n table = slice_set table n Reserved

-- an object stands under the number
abbrev pub published_at : ℕ → ℕ → List Slot → List Slot
published_at n object table = slice_set table n (Published object)

-- nothing stands under the number
abbrev pub freed_at : ℕ → List Slot → List Slot
freed_at n table = slice_set table n Free

-- a number that was found is set aside
abbrev pub reserved_if : Option ℕ → List Slot → List Slot
reserved_if None table = table
reserved_if (Some n) table = reserved_at n table
