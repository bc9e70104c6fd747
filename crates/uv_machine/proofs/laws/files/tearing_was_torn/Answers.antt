use Rattle.uv_machine.proofs.Overs.{tearing_was_torn}
use Rattle.uv_machine.proofs.laws.files.tearing_was_torn.Goals as goal

pub returns : goal.returns
returns c = tearing_was_torn
