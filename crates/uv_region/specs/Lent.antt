-- The regions that are lent to one packet action, by key.
use Rattle.std.specs.Ordering.{nat_cmp}
use Rattle.std.specs.Prelude.{◌≡◌, ◌<◌, ◌==◌, ℕ, Bool, false, is_none, max, List, [], ◌∷◌, Option, None, Some, length, option_map}
use Rattle.std.specs.FinMap.{FinMap, find}
use Rattle.std.specs.FinMap as map
use Rattle.std.specs.Coded.{Coded, coded_ℕ, coded×, coded_option}
use Rattle.uv_num.specs.declared.limits.TheConstants.{LENT_REGIONS}
use Rattle.uv_region.specs.declared.action.Access.{Access}
use Rattle.uv_region.specs.declared.action.Demand.{Demand}
use Rattle.uv_region.specs.declared.action.Window.{Window}
use Rattle.uv_region.specs.declared.piece.Piece.{Piece}
use Rattle.uv_region.specs.declared.regions.Keyed.{Keyed}
use Rattle.uv_region.specs.Actions.{PlainAction}
use Rattle.uv_region.specs.Refusals.{refusal_by, IsAllowed}
use Rattle.uv_region.specs.Codes.{coded_registered, coded_window}
use Rattle.uv_region.specs.Registered.{Registered, KnownRegion, known_of, terms_of}
use Rattle.uv_region.specs.Acting.{after_action, spent, read_by}

-- a region, and the window that it is reached through
abbrev pub ReachedRegion : Type 0
ReachedRegion = Registered × Option Window

-- the regions by key
abbrev pub Lent : Type 0
Lent = FinMap nat_cmp ReachedRegion

abbrev pub coded_lent : Coded Lent
coded_lent = map.code coded_ℕ (coded× coded_registered (coded_option coded_window))

-- the entries of the places that aren't empty, in their order
abbrev pub entries_of : List (Option Keyed) → List (ℕ × ReachedRegion)
entries_of [] = []
entries_of (None ∷ places) = entries_of places
entries_of (Some k ∷ places) = (k.key, (k.region, k.window)) ∷ entries_of places

-- each key stands once
abbrev pub AreApart : List (ℕ × ReachedRegion) → Type 0
AreApart [] = Unit {0}
AreApart (e ∷ rest) = (find nat_cmp e.0 rest ≡ None) × AreApart rest

-- each key stands once, in one of so many places
pub record IsLent (places : List (Option Keyed)) : Type 0 where
  pub apart : AreApart (entries_of places)
  pub count : length places ≡ LENT_REGIONS

-- whether a place has the region of a key
abbrev pub has_key : ℕ → Option Keyed → Bool
has_key key None = false
has_key key (Some k) = key == k.key

-- what stands at a place
abbrev pub reached_at : Option Keyed → Option ReachedRegion
reached_at None = None
reached_at (Some k) = Some (k.region, k.window)

-- what an action on a piece demands, if the region is reached so
abbrev pub demanded : Access → Piece → ℕ → Option Window → Demand
demanded kind piece domain window = record {
  kind = kind;
  offset = piece.offset;
  length = piece.length;
  domain = domain;
  window = window;
}

-- whether a region that is reached so lets an action pass, and none does where there is no region
abbrev pub reached_allows : Option ReachedRegion → Access → Piece → ℕ → Bool
reached_allows None kind piece domain = false
reached_allows (Some r) kind piece domain = is_none (refusal_by (terms_of r.0) (demanded kind piece domain r.1))

-- whether the region of the piece's key is there and lets an action pass
abbrev pub lent_allows : Lent → Access → Piece → ℕ → Bool
lent_allows lent kind piece domain = reached_allows (map.get lent piece.key) kind piece domain

-- the action on a piece, with its bytes, before it has a window
abbrev pub acting : Access → Piece → List ℕ → ℕ → ℕ → PlainAction
acting kind piece bytes qp domain = record {
  kind = kind;
  offset = piece.offset;
  length = piece.length;
  bytes = bytes;
  qp = qp;
  domain = domain;
  window = None;
}

-- an action through the window that its region is reached through
abbrev pub via : Option Window → PlainAction → PlainAction
via window a = record a { window = window }

-- an action on the region of a key, which is there, allows it and has room for it
pub record MayAct (lent : Lent) (key : ℕ) (a : PlainAction) : Type 0 where
  pub reached : ReachedRegion
  pub there : map.get lent key ≡ Some reached
  pub allowed : IsAllowed (terms_of reached.0) (via reached.1 a)
  pub room : 0 < reached.0.spare

abbrev pub with_acted : Lent → ℕ → PlainAction → Option ReachedRegion → Lent
with_acted lent key a None = lent
with_acted lent key a (Some r) = map.insert lent key (spent (after_action r.0 (via r.1 a)), r.1)

-- the regions after an action on that of a key
abbrev pub lent_after : Lent → ℕ → PlainAction → Lent
lent_after lent key a = with_acted lent key a (map.get lent key)

abbrev pub bytes_read : PlainAction → Option ReachedRegion → List ℕ
bytes_read a None = []
bytes_read a (Some r) = read_by a r.0.bytes

-- the bytes that an action on the region of a key reads
abbrev pub lent_bytes : Lent → ℕ → PlainAction → List ℕ
lent_bytes lent key a = bytes_read a (map.get lent key)

abbrev pub with_room : Lent → ℕ → ℕ → Option ReachedRegion → Lent
with_room lent key more None = lent
with_room lent key more (Some r) = map.insert lent key (record r.0 { spare = max r.0.spare more }, r.1)

-- the regions with room for so many actions on that of a key, if it is there
abbrev pub lent_with_room : Lent → ℕ → ℕ → Lent
lent_with_room lent key more = with_room lent key more (map.get lent key)

-- the regions with room for so many actions on that of each piece
abbrev pub lent_with_rooms : Lent → List Piece → ℕ → Lent
lent_with_rooms lent [] more = lent
lent_with_rooms lent (piece ∷ pieces) more = lent_with_rooms (lent_with_room lent piece.key more) pieces more

-- what counts of a region that is reached so
abbrev pub known_reached : ReachedRegion → KnownRegion × Option Window
known_reached r = (known_of r.0, r.1)

-- what counts of the region of a key
abbrev pub known : Lent → ℕ → Option (KnownRegion × Option Window)
known lent key = option_map known_reached (map.get lent key)

-- nothing that counts has changed: the keys, windows and regions are the same, but for the room of the regions
pub record StaysKnown (old new : Lent) : Type 0 where
  pub same : (key : ℕ) → known new key ≡ known old key
