-- An object seen alone: tests that the rules are made of, and its changes.
use Rattle.std.specs.Prelude.{ℕ, Bool, true, false, not, ◌&&◌, ◌==◌, Option, None, Some, if◌then◌else◌, slice_get, unwrap_or}
use Rattle.std.specs.List.{list_any}
use Rattle.uv_num.specs.declared.kind.Kind.{Kind}
use Rattle.uv_num.specs.declared.limits.TheConstants.{NONE}
use Rattle.uv_num.specs.declared.ids.Ids.{Ids}
use Rattle.uv_num.specs.declared.ids.Ids.TheVariants.{Empty}
use Rattle.uv_num.specs.Kind.{kind_place}
use Rattle.uv_num.specs.Ids.{ids_of, ids_and, first_alone, is_number}
use Rattle.uv_machine.specs.declared.object.Phase.{Phase}
use Rattle.uv_machine.specs.declared.object.Phase.TheVariants as phase
use Rattle.uv_machine.specs.declared.object.Binding.{Binding}
use Rattle.uv_machine.specs.declared.object.Object.{Object}
use Rattle.uv_machine.specs.declared.object.Change.{Change}
use Rattle.uv_machine.specs.declared.object.Change.TheVariants.{ToLive, ToDoomed, ToHusk, ToBound}
use Rattle.uv_machine.specs.Requests.{service_in, length_in, access_in}

-- two kinds are one
abbrev pub is_kind : Kind → Kind → Bool
is_kind a b = kind_place a == kind_place b

abbrev pub is_made : Phase → Bool
is_made phase.Made = true
is_made phase.Live = false
is_made phase.Doomed = false
is_made phase.Husk = false

abbrev pub is_live : Phase → Bool
is_live phase.Made = false
is_live phase.Live = true
is_live phase.Doomed = false
is_live phase.Husk = false

abbrev pub is_doomed : Phase → Bool
is_doomed phase.Made = false
is_doomed phase.Live = false
is_doomed phase.Doomed = true
is_doomed phase.Husk = false

abbrev pub is_husk : Phase → Bool
is_husk phase.Made = false
is_husk phase.Live = false
is_husk phase.Doomed = false
is_husk phase.Husk = true

-- the object has this id
abbrev pub has_id : ℕ → Object → Bool
has_id o x = x.id == o

-- the object is of this file
abbrev pub in_file : ℕ → Object → Bool
in_file f x = x.file == f

-- the number is the object's, in its file's handle table
abbrev pub has_handle : ℕ → ℕ → Object → Bool
has_handle f n x = in_file f x && (x.handle == n)

-- a look finds the object under this number: it was committed
abbrev pub is_published_at : ℕ → ℕ → Object → Bool
is_published_at f n x = has_handle f n x && not (is_made x.phase)

-- the object uses that one; a husk uses nothing
abbrev pub uses_object : ℕ → Object → Bool
uses_object o x = list_any (is_number o) (ids_of x.uses)

-- the object is of this file and live
abbrev pub is_live_in : ℕ → Object → Bool
is_live_in f x = in_file f x && is_live x.phase

-- the object is of this file and doomed
abbrev pub is_doomed_in : ℕ → Object → Bool
is_doomed_in f x = in_file f x && is_doomed x.phase

-- the object is of this file and has not been released
abbrev pub is_standing_in : ℕ → Object → Bool
is_standing_in f x = in_file f x && not (is_husk x.phase)

-- What an object has of the request that made it, and of what it uses.

-- the service of a queue pair
abbrev pub object_service : Object → ℕ
object_service x = service_in x.request

-- the bytes of a region
abbrev pub region_length : Object → ℕ
region_length x = length_in x.request

-- the rights of a region
abbrev pub region_access : Object → ℕ
region_access x = access_in x.request

-- the domain of an object: what it uses first
abbrev pub domain_of : Object → ℕ
domain_of x = unwrap_or (slice_get (ids_of x.uses) 0) NONE

-- Changes.

-- a live object that is taken out of use is doomed; a husk stays one
abbrev pub doomed_from : Phase → Phase
doomed_from phase.Made = phase.Made
doomed_from phase.Live = phase.Doomed
doomed_from phase.Doomed = phase.Doomed
doomed_from phase.Husk = phase.Husk

-- an object that is committed is live
abbrev pub live_from : Phase → Phase
live_from phase.Made = phase.Live
live_from phase.Live = phase.Live
live_from phase.Doomed = phase.Doomed
live_from phase.Husk = phase.Husk

-- no ids
abbrev pub no_ids : Ids
no_ids = Empty

-- what a window uses that is bound so: its domain, and the region
abbrev pub bound_uses : Option Binding → Ids → Ids
bound_uses None uses = first_alone uses
bound_uses (Some binding) uses = ids_and (first_alone uses) binding.region

-- an object after a change
abbrev pub with_change : Change → Object → Object
with_change ToLive x = record x { phase = live_from x.phase }
with_change ToDoomed x = record x { phase = doomed_from x.phase }
with_change ToHusk x = record x { phase = phase.Husk; uses = no_ids; binding = None }
with_change (ToBound binding) x = record x { uses = bound_uses binding x.uses; binding = binding }

-- an object after a change of the one with this id
abbrev pub on_object : ℕ → Change → Object → Object
on_object o change x = if has_id o x then with_change change x else x
