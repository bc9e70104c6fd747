use Rattle.uv_script.specs.Kept.{look_kept}
use Rattle.uv_script.proofs.AmissLoops.{left-missing}
use Rattle.uv_script.proofs.amiss.operands_left.Goals as goal

pub returns-in_default : goal.returns-in_default
returns-in_default c =
    left-missing (look_kept c.args.names.now) c.args.operands.now c.loop-operand.operand-index _ _ _ c.loop-operand-test.true c.in_default.ensures c.loop-operand.invariant
