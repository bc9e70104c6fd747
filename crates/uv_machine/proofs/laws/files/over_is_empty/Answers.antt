use Rattle.uv_machine.proofs.Overs.{over_is_empty}
use Rattle.uv_machine.proofs.laws.files.over_is_empty.Goals as goal

pub returns : goal.returns
returns c = over_is_empty
