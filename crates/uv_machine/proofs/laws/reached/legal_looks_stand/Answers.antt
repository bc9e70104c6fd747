use Rattle.uv_machine.proofs.Standing.{legal_looks_stand}
use Rattle.uv_machine.proofs.laws.reached.legal_looks_stand.Goals as goal

pub returns : goal.returns
returns c = legal_looks_stand
