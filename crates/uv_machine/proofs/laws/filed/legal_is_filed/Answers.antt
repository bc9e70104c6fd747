use Rattle.uv_machine.proofs.Filing.{legal_filed}
use Rattle.uv_machine.proofs.laws.filed.legal_is_filed.Goals as goal

pub returns : goal.returns
returns c = legal_filed
