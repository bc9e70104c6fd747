use Rattle.uv_num.proofs.Maps.{map_step_copied}
use Rattle.uv_machine.proofs.object.change_object.Goals as goal

pub loop-x-preserved : goal.loop-x-preserved
loop-x-preserved c = map_step_copied _ _ _ _ _ _ c.loop-x-test.true c.loop-x.invariant c.change_if.ensures
