-- There is a rule exactly where an access isn't allowed.
use Rattle.std.proofs.Common.{◌≡◌, ℕ, Option, None, Some, refl}
use Rattle.std.specs.FinMap as map
use Rattle.std.specs.Prelude.{is_none, option_map}
use Rattle.uv_region.specs.declared.action.Access.{Access}
use Rattle.uv_region.specs.declared.action.Why.{Why}
use Rattle.uv_region.specs.declared.piece.Piece.{Piece}
use Rattle.uv_region.specs.Lent.{ReachedRegion, demanded, reached_allows}
use Rattle.uv_region.specs.Refusals.{refusal_by}
use Rattle.uv_region.specs.Registered.{terms_of}
use Rattle.uv_region.specs.Rules.{tested_rule, reached_rule, AccessHasRule}

none_told : (o : Option Why) → is_none (option_map tested_rule o) ≡ is_none o
none_told None = refl
none_told (Some w) = refl

reached_has : (o : Option ReachedRegion) (kind : Access) (piece : Piece) (domain : ℕ) → is_none (reached_rule o kind piece domain) ≡ reached_allows o kind piece domain
reached_has None kind piece domain = refl
reached_has (Some r) kind piece domain = none_told (refusal_by (terms_of r.0) (demanded kind piece domain r.1))

pub access_has : AccessHasRule
access_has lent kind piece domain = reached_has (map.get lent piece.key) kind piece domain
