use Rattle.uv_machine.proofs.Silence.{step_keeps_request}
use Rattle.uv_machine.proofs.laws.words.step_keeps_request.Goals as goal

pub returns : goal.returns
returns c = step_keeps_request
