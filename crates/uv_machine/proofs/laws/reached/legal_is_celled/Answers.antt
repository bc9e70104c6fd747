use Rattle.uv_machine.proofs.CelledTurns.{legal_celled}
use Rattle.uv_machine.proofs.laws.reached.legal_is_celled.Goals as goal

pub returns : goal.returns
returns c = legal_celled
