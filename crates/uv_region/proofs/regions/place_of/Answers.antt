use Rattle.std.proofs.Common.{sym, ◌∙◌}
use Rattle.uv_region.proofs.Lending.{not_yet}
use Rattle.uv_region.proofs.regions.place_of.Goals as goal

pub loop-at-preserved : goal.loop-at-preserved
loop-at-preserved c = not_yet _ _ _ c.index-places-at.result c.loop-at-test.true c.index-places-at.is (sym c.has_key.ensures ∙ c.if-has_key.false) c.loop-at.invariant
