use Rattle.uv_qp.proofs.Filled.{pieces_few}
use Rattle.uv_qp.proofs.laws.pieces_are_few.Goals as goal

pub returns : goal.returns
returns c = pieces_few
