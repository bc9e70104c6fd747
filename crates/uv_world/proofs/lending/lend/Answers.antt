use Rattle.std.proofs.Common.{get_or, refl}
use Rattle.uv_world.proofs.Lends.{lending-init, lending-preserved}
use Rattle.uv_world.proofs.lending.lend.Goals as goal

pub loop-key-init : goal.loop-key-init
loop-key-init c = lending-init _ _ _ _ c.new-lent.ensures c.requires.different

pub loop-key-preserved : goal.loop-key-preserved
loop-key-preserved c = lending-preserved _ _ _ _ _ _ _ c.loop-key.key-index (get_or c.args.keys.now c.loop-key.key-index 0) c.loop-key-test.true refl c.loop-key.invariant c.lend_one.ensures.regions c.lend_one.ensures.lent
