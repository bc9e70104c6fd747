-- Full pools of deeds that were never planted.
use Rattle.std.specs.Prelude.{ℕ, ◌≡◌, ◌<◌, List, Some, length, slice_get}
use Rattle.uv_num.specs.declared.limits.TheConstants.{CELLS, KINDS}
use Rattle.uv_num.specs.Kind.{kind_place}
use Rattle.uv_pool.specs.Deeds.{DeedFacts, IsNewDeed}
use Rattle.uv_pool.specs.Homes.{Homes, deed_at}

-- at this place of the pool is the deed of its cell, never planted
pub record HasNewDeed {D : Type 0} (facts : D → DeedFacts) (pool : Homes D) (k i : ℕ) : Type 0 where
  pub deed : D
  pub there : deed_at pool i ≡ Some deed
  pub new : IsNewDeed (facts deed) k i

-- a full pool of the kind in this place, drawn from by none
pub record IsNewPool {D : Type 0} (facts : D → DeedFacts) (k : ℕ) (pool : Homes D) : Type 0 where
  pub kind : kind_place pool.kind ≡ k
  pub size : length pool.deeds ≡ CELLS
  pub next : pool.next ≡ 0
  pub deeds : (i : ℕ) → i < CELLS → HasNewDeed facts pool k i

-- full pools of all kinds, in the order of the kinds
pub record AreNewPools {D : Type 0} (facts : D → DeedFacts) (pools : List (Homes D)) : Type 0 where
  pub count : length pools ≡ KINDS
  pub each : (k : ℕ) (pool : Homes D) → slice_get pools k ≡ Some pool → IsNewPool facts k pool
