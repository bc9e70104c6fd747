-- The four tests of an action, and the first that fails.
use Rattle.std.specs.Prelude.{◌≡◌, ◌+◌, ◌==◌, ◌&&◌, ℕ, Bool, true, false, not, nat_le, List, codes, Option, None, Some, if◌then◌else◌}
use Rattle.uv_num.specs.declared.access.TheConstants.{ACCESS_LOCAL_WRITE, ACCESS_REMOTE_READ, ACCESS_REMOTE_WRITE}
use Rattle.uv_num.specs.Access.{has_right}
use Rattle.uv_region.specs.declared.action.Access.{Access}
use Rattle.uv_region.specs.declared.action.Access.TheVariants.{LocalRead, LocalWrite, RemoteRead, RemoteWrite}
use Rattle.uv_region.specs.declared.action.Demand.{Demand}
use Rattle.uv_region.specs.declared.action.Why.{Why}
use Rattle.uv_region.specs.declared.action.Why.TheVariants as why
use Rattle.uv_region.specs.declared.action.Window.{Window}
use Rattle.uv_region.specs.declared.rights.Rights.{Rights}
use Rattle.uv_region.specs.Actions.{PlainAction}

-- what the tests look at in a region: its length, domain and rights as they stand
pub record Terms : Type 0 where
  pub length : ℕ
  pub domain : ℕ
  pub rights : Rights

-- what the tests look at in an action: neither its bytes nor who acts
abbrev pub demand_of : PlainAction → Demand
demand_of a = record { kind = a.kind; offset = a.offset; length = a.length; domain = a.domain; window = a.window }

-- whether an action lies inside a length, in unbounded numbers
abbrev pub is_inside : ℕ → Demand → Bool
is_inside size d = nat_le (d.offset + d.length) size

-- whether a region's rights give an access
abbrev pub region_gives : Rights → Access → Bool
region_gives rights LocalRead = true
region_gives rights LocalWrite = has_right ACCESS_LOCAL_WRITE rights.0
region_gives rights RemoteRead = has_right ACCESS_REMOTE_READ rights.0
region_gives rights RemoteWrite = has_right ACCESS_REMOTE_WRITE rights.0

-- whether a window's rights give an access: a local one never goes through a window
abbrev pub window_gives : Rights → Access → Bool
window_gives rights LocalRead = false
window_gives rights LocalWrite = false
window_gives rights RemoteRead = has_right ACCESS_REMOTE_READ rights.0
window_gives rights RemoteWrite = has_right ACCESS_REMOTE_WRITE rights.0

-- whether the right is there, which through a window isn't the region's to give
abbrev pub has_its_right : Rights → Access → Option Window → Bool
has_its_right rights kind None = region_gives rights kind
has_its_right rights kind (Some w) = true

-- whether an action lies in a window's range, in unbounded numbers
abbrev pub is_in_window : Window → Demand → Bool
is_in_window w d = nat_le w.offset d.offset && nat_le (d.offset + d.length) (w.offset + w.length)

-- whether a window lets an action through: its range, its right and its domain
abbrev pub passes : Option Window → Demand → Bool
passes None d = true
passes (Some w) d = is_in_window w d && window_gives w.rights d.kind && (w.domain == d.domain)

-- the first of the tests that fails: bounds, right, domain, window
abbrev pub refusal_by : Terms → Demand → Option Why
refusal_by t d =
    if not (is_inside t.length d)
    then Some why.Bounds
    else (if not (has_its_right t.rights d.kind d.window)
    then Some why.Right
    else (if not (t.domain == d.domain)
    then Some why.Domain
    else (if not (passes d.window d) then Some why.Window else None)))

-- the first of the tests that an action fails
abbrev pub first_refusal : Terms → PlainAction → Option Why
first_refusal t a = refusal_by t (demand_of a)

-- an action that no test refuses
abbrev pub IsAllowed : Terms → PlainAction → Type 0
IsAllowed t a = first_refusal t a ≡ None

-- the word that reports print for a test
abbrev pub why_name : Why → List ℕ
why_name why.Bounds = codes "bounds"
why_name why.Right = codes "right"
why_name why.Domain = codes "domain"
why_name why.Window = codes "window"
