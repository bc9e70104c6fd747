use Rattle.uv_machine.proofs.Overs.{closed_was_torn}
use Rattle.uv_machine.proofs.laws.files.closed_was_torn.Goals as goal

pub returns : goal.returns
returns c = closed_was_torn
