use Rattle.uv_qp.proofs.Lasting.{PairGoesOn_trans}
use Rattle.uv_qp.proofs.laws.goes_on_in_turn.Goals as goal

pub returns : goal.returns
returns c = PairGoesOn_trans
