use Rattle.uv_machine.proofs.Overs.{made_is_released}
use Rattle.uv_machine.proofs.laws.files.made_is_released.Goals as goal

pub returns : goal.returns
returns c = made_is_released
