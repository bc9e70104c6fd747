use Rattle.uv_machine.proofs.Overs.{phase_goes_on}
use Rattle.uv_machine.proofs.laws.files.phase_goes_on.Goals as goal

pub returns : goal.returns
returns c = phase_goes_on
