-- A client's own writes and reads of a region, pokes and peeks: what they answer, and what they leave.
use Rattle.std.specs.Prelude.{ℕ, ◌≡◌, List, [], Option, None, Some, length}
use Rattle.uv_num.specs.declared.limits.TheConstants.{NONE}
use Rattle.uv_region.specs.declared.action.Access.TheVariants.{LocalRead, LocalWrite}
use Rattle.uv_region.specs.declared.region.ActTried.{ActTried}
use Rattle.uv_region.specs.declared.region.ActTried.TheVariants.{Did, Denied, Again, Dead, NoMemory}
use Rattle.uv_region.specs.Acting.{after_action, read_by}
use Rattle.uv_region.specs.Actions.{PlainAction}
use Rattle.uv_region.specs.Refusals.{first_refusal}
use Rattle.uv_region.specs.Registered.{Registered, terms_of}
use Rattle.uv_world.specs.Holdings.{Held}
use Rattle.uv_world.specs.Named.{cells_under}

-- a client writes or reads by the region's own rights: for the region's domain, through no window, and of no queue pair
abbrev pub poke_of : ℕ → List ℕ → Registered → PlainAction
poke_of offset bytes r = record { kind = LocalWrite; offset = offset; length = length bytes; bytes = bytes; qp = NONE; domain = r.domain; window = None }

abbrev pub peek_of : ℕ → ℕ → Registered → PlainAction
peek_of offset length r = record { kind = LocalRead; offset = offset; length = length; bytes = []; qp = NONE; domain = r.domain; window = None }

-- what an answer says of the region that was named and of an action on it: denied as the tests say, and for want of memory
-- only where they refuse nothing
abbrev pub ActAnswers : (Registered → PlainAction) → Option Registered → ActTried → Type 0
ActAnswers action None answer = answer ≡ Dead 0
ActAnswers action (Some r) (Did told) = (first_refusal (terms_of r) (action r) ≡ None) × (told.bytes ≡ read_by (action r) r.bytes)
ActAnswers action (Some r) (Denied why) = first_refusal (terms_of r) (action r) ≡ Some why
ActAnswers action (Some r) (Again word) = ⊥
ActAnswers action (Some r) (Dead word) = ⊥
ActAnswers action (Some r) NoMemory = first_refusal (terms_of r) (action r) ≡ None

-- the region after this answer: an action that was made is in its bytes and at the end of its journal
abbrev pub region_acted : (Registered → PlainAction) → ActTried → Registered → Registered
region_acted action (Did told) r = after_action r (action r)
region_acted action (Denied why) r = r
region_acted action (Again word) r = r
region_acted action (Dead word) r = r
region_acted action NoMemory r = r

-- nothing but an action that was made changes what is held
abbrev pub held_acted : Held → ℕ × ℕ → (Registered → PlainAction) → ActTried → Held
held_acted h mr action (Did told) = record h { regions = cells_under h.regions mr (λ r. after_action r (action r)) }
held_acted h mr action (Denied why) = h
held_acted h mr action (Again word) = h
held_acted h mr action (Dead word) = h
held_acted h mr action NoMemory = h
