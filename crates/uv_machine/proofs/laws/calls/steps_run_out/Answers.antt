use Rattle.uv_machine.proofs.OwnCall.{steps_ahead-step}
use Rattle.uv_machine.proofs.laws.calls.steps_run_out.Goals as goal

pub returns : goal.returns
returns c = steps_ahead-step
