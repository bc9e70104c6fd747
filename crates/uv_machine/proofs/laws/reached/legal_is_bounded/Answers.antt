use Rattle.uv_machine.proofs.Numbers.{legal_bounded}
use Rattle.uv_machine.proofs.laws.reached.legal_is_bounded.Goals as goal

pub returns : goal.returns
returns c = legal_bounded
