-- What the seats and deeds of a new guard are fit for.
use Rattle.std.specs.Prelude.{◌≡◌, ℕ, ◌<◌, List, length, replicate, slice_get, Some, None}
use Rattle.atomic_table.specs.Seated.{TableId}
use Rattle.uv_num.specs.Each.{Each}
use Rattle.uv_num.specs.declared.limits.TheConstants.{CELLS}
use Rattle.uv_guard.specs.declared.life.Stage.TheVariants.{Home, Planted}
use Rattle.uv_guard.specs.Seated.{Seated, Deeded, fresh_seats, fresh_deeds, IsOutside, cells_of}
use Rattle.uv_guard.specs.Closed.{IsAtRest}

-- a seat of the guard that may enter each of its cells
abbrev pub IsFree : {T : Type 0} → List TableId → Seated T → Type 0
IsFree guard s = (s.guard ≡ guard) × (s.held ≡ replicate CELLS None)

-- a deed of a cell of the guard that may plant it
abbrev pub IsReady : {T : Type 0} → List TableId → Deeded T → Type 0
IsReady guard d = (slice_get guard d.index ≡ Some d.cell) × (d.stage ≡ Home)

-- a deed of a cell of the guard that may doom it
abbrev pub IsLiving : {T : Type 0} → List TableId → Deeded T → Type 0
IsLiving {T = T} guard d = (slice_get guard d.index ≡ Some d.cell) × ((p : T) × (d.stage ≡ Planted p))

pub record FreshLaws (T : Type 0) : Type 0 where
  pub free : (guard : List TableId) (n count : ℕ) → length guard ≡ CELLS → Each (IsFree {T = T} guard) (fresh_seats guard n count)
  pub cells : (guard : List TableId) (count : ℕ) → cells_of (fresh_deeds {T = T} count guard) ≡ guard
  pub rest : (guard : List TableId) (count : ℕ) → Each (λ (d : Deeded T). IsAtRest d.stage) (fresh_deeds count guard)
  pub ready : (guard : List TableId) (count i : ℕ) (d : Deeded T) → slice_get (fresh_deeds count guard) i ≡ Some d → IsReady guard d × (d.index ≡ i)
  -- what is free may enter each cell, and may be given back
  pub place : (guard : List TableId) (s : Seated T) (i : ℕ) → IsFree guard s → i < CELLS → slice_get s.held i ≡ Some None
  pub outside : (guard : List TableId) (s : Seated T) → IsFree guard s → IsOutside guard s
