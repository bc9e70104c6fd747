use Rattle.uv_machine.specs.States.{start}
use Rattle.uv_machine.proofs.GoingOn.{state_from-snoc}
use Rattle.uv_machine.proofs.laws.histories.state_goes_on.Goals as goal

pub returns : goal.returns
returns c = state_from-snoc start
