use Rattle.uv_machine.proofs.Overs.{over_is_idle}
use Rattle.uv_machine.proofs.laws.files.over_is_idle.Goals as goal

pub returns : goal.returns
returns c = over_is_idle
