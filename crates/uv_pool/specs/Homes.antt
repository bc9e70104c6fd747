-- The cells of a kind, each with its deed or without it: which deed is drawn next, and what drawing and bringing home do.
use Rattle.std.specs.Prelude.{ℕ, ◌≡◌, ◌<◌, ◌+◌, ◌%◌, Bool, true, false, not, List, length, Option, None, Some, option_map, position, take, drop, map, slice_get, slice_index_or, slice_set, ◌&&◌, nat_lt}
use Rattle.std.specs.List.{list_all}
use Rattle.std.specs.Option.{is_some, is_none, option_or, option_and_then}
use Rattle.uv_num.specs.declared.kind.Kind.{Kind}
use Rattle.uv_num.specs.declared.limits.TheConstants.{CELLS}
use Rattle.uv_pool.specs.Deeds.{DeedFacts}

-- the deeds of a kind by the indices of their cells, and the place at which the next choice begins
pub record Homes (D : Type 0) : Type 0 where
  pub kind : Kind
  pub deeds : List (Option D)
  pub next : ℕ

-- a deed is of this kind and of the cell with this index
pub record IsOfCell {D : Type 0} (facts : D → DeedFacts) (kind : Kind) (i : ℕ) (deed : D) : Type 0 where
  pub same_kind : (facts deed).kind ≡ kind
  pub same_index : (facts deed).index ≡ i

-- deeds of one kind, each at the place of its cell
abbrev pub AreInPlace : {D : Type 0} → (D → DeedFacts) → Kind → List D → Type 0
AreInPlace {D} facts kind deeds = (i : ℕ) (deed : D) → slice_get deeds i ≡ Some deed → IsOfCell facts kind i deed

-- deeds of one kind, one for each cell, in the order of the cells
pub record AreOfCells {D : Type 0} (facts : D → DeedFacts) (kind : Kind) (deeds : List D) : Type 0 where
  pub size : length deeds ≡ CELLS
  pub each : AreInPlace facts kind deeds

-- the deed at a place, unless it is out; behind the last place there is none
abbrev pub deed_at : {D : Type 0} → Homes D → ℕ → Option D
deed_at pool i = slice_index_or pool.deeds i None

-- what is true of every pool: each deed that isn't out stands at the place of its cell
pub record IsPool {D : Type 0} (facts : D → DeedFacts) (pool : Homes D) : Type 0 where
  pub size : length pool.deeds ≡ CELLS
  pub begins : pool.next < CELLS
  pub each : (i : ℕ) (deed : D) → deed_at pool i ≡ Some deed → IsOfCell facts pool.kind i deed

-- the deed of the cell with this index is out
abbrev pub is_out_at : {D : Type 0} → Homes D → ℕ → Bool
is_out_at pool i = nat_lt i CELLS && is_none (deed_at pool i)

-- a deed may come home: it is of the pool's kind, and the deed of its cell is out
pub record IsOutOf {D : Type 0} (facts : D → DeedFacts) (pool : Homes D) (deed : D) : Type 0 where
  pub same_kind : (facts deed).kind ≡ pool.kind
  pub out : is_out_at pool (facts deed).index ≡ true

-- no deed is out
abbrev pub has_all : {D : Type 0} → Homes D → Bool
has_all pool = list_all is_some pool.deeds

-- a deed at a place that may be drawn: a spent one stays
abbrev pub is_drawable : {D : Type 0} → (D → DeedFacts) → Option D → Bool
is_drawable facts None = false
is_drawable facts (Some deed) = not (facts deed).spent

-- at this place of the list stands a deed that may be drawn
pub record IsHomeAt {D : Type 0} (facts : D → DeedFacts) (deeds : List (Option D)) (i : ℕ) : Type 0 where
  pub within : i < length deeds
  pub home : is_drawable facts (slice_index_or deeds i None) ≡ true

-- Which deed is drawn.

-- the choice goes round: the first deed that is home at or after the place, else the first before it
abbrev pub home_place : {D : Type 0} → (D → DeedFacts) → Homes D → Option ℕ
home_place facts pool =
    option_or (option_map (λ i. pool.next + i) (position (is_drawable facts) (drop pool.next pool.deeds))) (position (is_drawable facts) (take pool.next pool.deeds))

-- a deed that is drawn: one of the pool's kind and of the cell that is next, and it isn't spent
pub record IsDrawn {D : Type 0} (facts : D → DeedFacts) (pool : Homes D) (deed : D) : Type 0 where
  pub same_kind : (facts deed).kind ≡ pool.kind
  pub place : home_place facts pool ≡ Some (facts deed).index
  pub unspent : (facts deed).spent ≡ false

-- the deed at a place, if there is a place
abbrev pub deed_at_if : {D : Type 0} → Homes D → Option ℕ → Option D
deed_at_if pool place = option_and_then (deed_at pool) place

-- What a pool becomes.

-- all deeds are home, and the next choice begins at the first cell
abbrev pub full_homes : {D : Type 0} → Kind → List D → Homes D
full_homes kind deeds = record { kind = kind; deeds = map Some deeds; next = 0 }

-- the deed at this place went out: the next choice begins behind it
abbrev pub deed_drawn : {D : Type 0} → ℕ → Homes D → Homes D
deed_drawn i pool = record { kind = pool.kind; deeds = slice_set pool.deeds i None; next = (i + 1) % CELLS }

-- a deed that was found went out
abbrev pub drawn_if : {D : Type 0} → Option ℕ → Homes D → Homes D
drawn_if None pool = pool
drawn_if (Some i) pool = deed_drawn i pool

-- a deed came home to this place
abbrev pub brought : {D : Type 0} → ℕ → D → Homes D → Homes D
brought i deed pool = record pool { deeds = slice_set pool.deeds i (Some deed) }
