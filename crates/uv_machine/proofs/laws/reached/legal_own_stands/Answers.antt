use Rattle.uv_machine.proofs.Owning.{legal_own_stands}
use Rattle.uv_machine.proofs.laws.reached.legal_own_stands.Goals as goal

pub returns : goal.returns
returns c = legal_own_stands
