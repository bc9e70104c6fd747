use Rattle.uv_machine.proofs.Entering.{steps_ahead-entered}
use Rattle.uv_machine.proofs.laws.calls.enters_with_few.Goals as goal

pub returns : goal.returns
returns c = steps_ahead-entered
