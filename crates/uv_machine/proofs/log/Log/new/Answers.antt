use Rattle.std.proofs.Common.{◌∙◌, arith}
use Rattle.uv_machine.proofs.Logging.{kept_start}
use Rattle.uv_machine.proofs.log.Log.new.Goals as goal

pub invariant_of-result : goal.invariant_of-result
invariant_of-result c =
    kept_start _ _ _ c.in_ok-state.ensures (c.widen.ensures.items ∙ c.new-history.ensures.items) (omega (arith, c.in_ok-widen.ensures.ok, c.new-history.ensures.room))
