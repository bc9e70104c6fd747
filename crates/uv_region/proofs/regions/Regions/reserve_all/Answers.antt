use Rattle.uv_region.proofs.Reaching.{rooms_on, stays_by_room}
use Rattle.uv_region.proofs.regions.Regions.reserve_all.Goals as goal

pub loop-piece-preserved : goal.loop-piece-preserved
loop-piece-preserved c =
    (rooms_on c.loop-piece.self c.reserve.new.self c.args.pieces.now c.loop-piece.piece-index c.args.more _ _ c.loop-piece-test.true c.in_ok-reserve.ensures.ok c.loop-piece.invariant.0, stays_by_room c.args.self.now c.loop-piece.self c.reserve.new.self _ c.args.more c.loop-piece.invariant.1 c.in_ok-reserve.ensures.ok)
