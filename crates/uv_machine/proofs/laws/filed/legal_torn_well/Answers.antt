use Rattle.uv_machine.proofs.Filing.{legal_torn}
use Rattle.uv_machine.proofs.laws.filed.legal_torn_well.Goals as goal

pub returns : goal.returns
returns c = legal_torn
