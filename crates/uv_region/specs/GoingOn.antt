-- Regions that are lent to the actions of one queue pair go on: they stay under their keys, and are acted on by it alone.
use Rattle.std.specs.Prelude.{◌≡◌, ℕ, List, ◌++◌, Option, None, Some}
use Rattle.std.specs.FinMap as map
use Rattle.uv_num.specs.Each.{Each}
use Rattle.uv_region.specs.declared.action.Window.{Window}
use Rattle.uv_region.specs.Actions.{PlainAction}
use Rattle.uv_region.specs.Journals.{GoesOn, journal_of}
use Rattle.uv_region.specs.Lent.{Lent, ReachedRegion}

-- an action of a queue pair for a domain, through this window
pub record IsActionOf (qp domain : ℕ) (window : Option Window) (a : PlainAction) : Type 0 where
  pub actor : a.qp ≡ qp
  pub right : a.domain ≡ domain
  pub through : a.window ≡ window

-- the same region, reached through the same window; its journal grew by such actions alone
pub record ReachedGoesOn (qp domain : ℕ) (old new : ReachedRegion) : Type 0 where
  pub window : new.1 ≡ old.1
  pub journal : GoesOn (journal_of old.0) (journal_of new.0)
  pub more : List PlainAction
  pub actions : new.0.actions ≡ old.0.actions ++ more
  pub acted : Each (IsActionOf qp domain old.1) more

-- what stands at a key is there still, and where nothing does nothing is put
abbrev pub GoesOnAt : ℕ → ℕ → Option ReachedRegion → Option ReachedRegion → Type 0
GoesOnAt qp domain None None = Unit {0}
GoesOnAt qp domain None (Some new) = ⊥
GoesOnAt qp domain (Some old) None = ⊥
GoesOnAt qp domain (Some old) (Some new) = ReachedGoesOn qp domain old new

pub record LentGoesOn (qp domain : ℕ) (old new : Lent) : Type 0 where
  pub each : (key : ℕ) → GoesOnAt qp domain (map.get old key) (map.get new key)
