-- The rules of an access by a key, by name: the key and the source of each, and which of them an access doesn't meet.
use Rattle.std.specs.Prelude.{◌≡◌, ℕ, is_none, List, codes, Option, None, Some, option_map}
use Rattle.std.specs.FinMap as map
use Rattle.uv_region.specs.declared.action.Access.{Access}
use Rattle.uv_region.specs.declared.action.Why.{Why}
use Rattle.uv_region.specs.declared.action.Why.TheVariants as why
use Rattle.uv_region.specs.declared.piece.Piece.{Piece}
use Rattle.uv_region.specs.declared.rule.AccessRule.{AccessRule}
use Rattle.uv_region.specs.declared.rule.AccessRule.TheVariants.{Unknown, Bounds, Right, Domain, Window}
use Rattle.uv_region.specs.Lent.{Lent, ReachedRegion, demanded, lent_allows}
use Rattle.uv_region.specs.Refusals.{refusal_by}
use Rattle.uv_region.specs.Registered.{terms_of}

abbrev pub access_key : AccessRule → List ℕ
access_key Unknown = codes "key-unknown"
access_key Bounds = codes "key-bounds"
access_key Right = codes "key-right"
access_key Domain = codes "key-domain"
access_key Window = codes "key-window"

abbrev pub access_source : AccessRule → List ℕ
access_source Unknown = codes "rxe_mr.c, lookup_mr; rxe_mw.c, rxe_lookup_mw"
access_source Bounds = codes "rxe_mr.c, mr_check_range"
access_source Right = codes "rxe_mr.c, lookup_mr"
access_source Domain = codes "rxe_mr.c, lookup_mr"
access_source Window = codes "rxe_mw.c, rxe_lookup_mw"

-- the rule of a test
abbrev pub tested_rule : Why → AccessRule
tested_rule why.Bounds = Bounds
tested_rule why.Right = Right
tested_rule why.Domain = Domain
tested_rule why.Window = Window

-- the rule that an access to a region that is reached so doesn't meet, if there is one
abbrev pub reached_rule : Option ReachedRegion → Access → Piece → ℕ → Option AccessRule
reached_rule None kind piece domain = Some Unknown
reached_rule (Some r) kind piece domain = option_map tested_rule (refusal_by (terms_of r.0) (demanded kind piece domain r.1))

-- the rule that an access to a piece doesn't meet
abbrev pub access_rule : Lent → Access → Piece → ℕ → Option AccessRule
access_rule lent kind piece domain = reached_rule (map.get lent piece.key) kind piece domain

-- The law: there is such a rule exactly where the access isn't allowed.

abbrev pub AccessHasRule : Type 0
AccessHasRule = (lent : Lent) (kind : Access) (piece : Piece) (domain : ℕ) → is_none (access_rule lent kind piece domain) ≡ lent_allows lent kind piece domain
