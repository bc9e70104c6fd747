-- Which regions are lent to a packet action, by the keys that it wants, and what comes back.
use Rattle.std.specs.Prelude.{ℕ, ◌≡◌, ◌==◌, ◌%◌, false, if◌then◌else◌, Option, None, Some, List, [], ◌∷◌, is_some, map, slice_get}
use Rattle.std.specs.FinMap as map
use Rattle.uv_num.specs.declared.kind.Kind.{Kind}
use Rattle.uv_num.specs.declared.kind.Kind.TheVariants as kind
use Rattle.uv_num.specs.declared.limits.TheConstants.{KEY_VARIANTS}
use Rattle.uv_num.specs.Each.{Each}
use Rattle.uv_num.specs.Place.{at_place}
use Rattle.uv_pool.specs.Keys.{key_parts}
use Rattle.uv_region.specs.declared.action.Window.{Window}
use Rattle.uv_region.specs.Lent.{Lent, ReachedRegion}
use Rattle.uv_region.specs.Registered.{Registered}
use Rattle.uv_world.specs.declared.cells.Cell.{Cell}
use Rattle.uv_world.specs.declared.content.Bound.{Bound}
use Rattle.uv_world.specs.declared.content.Windowed.{Windowed}
use Rattle.uv_world.specs.declared.lending.Reach.{Reach}
use Rattle.uv_world.specs.Celled.{cell_filled, cells_emptied, value_of_cell}
use Rattle.uv_world.specs.Fitting.{outline}
use Rattle.uv_world.specs.Moving.{region_id}

-- Where a key leads.

-- what a cell holds while this is the variant of its key, the low bits of its generation
abbrev pub value_by : {T : Type 0} → ℕ → Option (Cell T) → Option T
value_by variant None = None
value_by variant (Some cell) = if cell.generation % KEY_VARIANTS == variant then cell.value else None

-- a region is reached by its own key, through no window
abbrev pub region_reach : ℕ → Option Registered → Option Reach
region_reach at None = None
region_reach at (Some r) = Some (record { region = at; window = None })

-- a bound window, as an action comes through it
abbrev pub window_of : Windowed → Bound → Window
window_of w b = record { object = w.object; domain = w.domain; offset = b.offset; length = b.length; rights = record { 0 = b.access % 256 } }

-- a window leads to the region that it was bound to, and to no later one in the same cell
abbrev pub bound_reach : List (Cell Registered) → Windowed → Option Bound → Option Reach
bound_reach regions w None = None
bound_reach regions w (Some b) = if region_id (value_of_cell regions b.region) == b.object then Some (record { region = b.region; window = Some (window_of w b) }) else None

abbrev pub window_reach : List (Cell Registered) → Option Windowed → Option Reach
window_reach regions None = None
window_reach regions (Some w) = bound_reach regions w w.bound

abbrev pub reach_of_kind : List (Cell Registered) → List (Cell Windowed) → ℕ → ℕ → Kind → Option Reach
reach_of_kind regions windows at variant kind.Pd = None
reach_of_kind regions windows at variant kind.Channel = None
reach_of_kind regions windows at variant kind.Cq = None
reach_of_kind regions windows at variant kind.Qp = None
reach_of_kind regions windows at variant kind.Srq = None
reach_of_kind regions windows at variant kind.Ah = None
reach_of_kind regions windows at variant kind.Mr = region_reach at (value_by variant (slice_get regions at))
reach_of_kind regions windows at variant kind.Mw = window_reach regions (value_by variant (slice_get windows at))

abbrev pub reach_of_parts : List (Cell Registered) → List (Cell Windowed) → Option (Kind × ℕ × ℕ) → Option Reach
reach_of_parts regions windows None = None
reach_of_parts regions windows (Some parts) = reach_of_kind regions windows parts.1 parts.2 parts.0

-- the cell of the region that a key leads to, with the window on the way, if all that is live
abbrev pub reach_of : List (Cell Registered) → List (Cell Windowed) → ℕ → Option Reach
reach_of regions windows key = reach_of_parts regions windows (key_parts key)

-- Lending.

-- the cells of regions, and what is lent from them
pub record Lending : Type 0 where
  pub regions : List (Cell Registered)
  pub lent : Lent

-- nothing is lent
abbrev pub nothing_lent : List (Cell Registered) → Lending
nothing_lent regions = record { regions = regions; lent = map.empty }

-- a region that goes out leaves its cell, whose generation stays
abbrev pub lend_value : Lending → ℕ → Reach → Option Registered → Lending
lend_value l key reach None = record l { regions = cells_emptied l.regions reach.region }
lend_value l key reach (Some r) = record { regions = cells_emptied l.regions reach.region; lent = map.insert l.lent key (r, reach.window) }

abbrev pub lend_reached : Lending → ℕ → Option Reach → Lending
lend_reached l key None = l
lend_reached l key (Some reach) = lend_value l key reach (value_of_cell l.regions reach.region)

-- the region that a key leads to is lent, if there is one
abbrev pub lend_one : List (Cell Windowed) → Lending → ℕ → Lending
lend_one windows l key = lend_reached l key (reach_of l.regions windows key)

-- those of all keys, in order
abbrev pub lend_all : List (Cell Windowed) → Lending → List ℕ → Lending
lend_all windows l [] = l
lend_all windows l (key ∷ keys) = lend_all windows (lend_one windows l key) keys

-- no key stands twice
abbrev pub AreDifferent : List ℕ → Type 0
AreDifferent [] = Unit {0}
AreDifferent (key ∷ keys) = Each (λ k. (k == key) ≡ false) keys × AreDifferent keys

-- Giving back.

abbrev pub bound_home : Option Bound → Option ℕ
bound_home None = None
bound_home (Some b) = Some b.region

abbrev pub window_home : Option Windowed → Option ℕ
window_home None = None
window_home (Some w) = bound_home w.bound

abbrev pub home_by_kind : List (Cell Windowed) → ℕ → Kind → Option ℕ
home_by_kind windows at kind.Pd = None
home_by_kind windows at kind.Channel = None
home_by_kind windows at kind.Cq = None
home_by_kind windows at kind.Qp = None
home_by_kind windows at kind.Srq = None
home_by_kind windows at kind.Ah = None
home_by_kind windows at kind.Mr = Some at
home_by_kind windows at kind.Mw = window_home (value_of_cell windows at)

abbrev pub home_of_parts : List (Cell Windowed) → Option (Kind × ℕ × ℕ) → Option ℕ
home_of_parts windows None = None
home_of_parts windows (Some parts) = home_by_kind windows parts.1 parts.0

-- the cell that the region of a key was lent from
abbrev pub home_of : List (Cell Windowed) → ℕ → Option ℕ
home_of windows key = home_of_parts windows (key_parts key)

abbrev pub return_value : Lending → ℕ → Option ℕ → Option ReachedRegion → Lending
return_value l key None o = l
return_value l key (Some at) None = record l { lent = map.remove l.lent key }
return_value l key (Some at) (Some r) = record { regions = at_place l.regions at (cell_filled r.0); lent = map.remove l.lent key }

-- the region of a key comes back into its cell, if it was lent
abbrev pub return_one : List (Cell Windowed) → Lending → ℕ → Lending
return_one windows l key = return_value l key (home_of windows key) (map.get l.lent key)

-- those of all keys come back, the last that was lent first
abbrev pub return_all : List (Cell Windowed) → Lending → List ℕ → Lending
return_all windows l [] = l
return_all windows l (key ∷ keys) = return_one windows (return_all windows l keys) key

-- both maps have the same keys
abbrev pub SameKeys : Lent → Lent → Type 0
SameKeys a b = (k : ℕ) → is_some (map.get a k) ≡ is_some (map.get b k)

-- what keys have lent comes back, whatever was done to the regions meanwhile: the same cells hold something under the same
-- generations
abbrev pub LentComesBack : Type 0
LentComesBack =
    (windows : List (Cell Windowed)) (regions : List (Cell Registered)) (keys : List ℕ) (lent : Lent) → AreDifferent keys → SameKeys lent (lend_all windows (nothing_lent regions) keys).lent
    → map outline (return_all windows (record { regions = (lend_all windows (nothing_lent regions) keys).regions; lent = lent }) keys).regions ≡ map outline regions
