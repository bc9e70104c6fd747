-- The machine's laws that the graph stands on.
use Rattle.uv_machine.specs.States.{start}
use Rattle.uv_machine.specs.Laws.{StateGoesOn}
use Rattle.uv_machine.proofs.GoingOn.{state_from-snoc}

pub state_goes_on : StateGoesOn
state_goes_on = state_from-snoc start
