use Rattle.uv_machine.proofs.Standing.{legal_uses_stand}
use Rattle.uv_machine.proofs.laws.reached.legal_uses_stand.Goals as goal

pub returns : goal.returns
returns c = legal_uses_stand
