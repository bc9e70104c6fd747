use Rattle.std.proofs.Common.{rules}
use Rattle.uv_region.proofs.Lending.{fuller}
use Rattle.uv_region.proofs.regions.empty_place.Goals as goal

pub loop-at-preserved : goal.loop-at-preserved
loop-at-preserved c = fuller _ _ c.index-places-at.result c.loop-at-test.true c.index-places-at.is (search rules) c.loop-at.invariant
