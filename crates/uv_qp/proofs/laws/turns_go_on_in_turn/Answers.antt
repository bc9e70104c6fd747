use Rattle.uv_qp.proofs.Lasting.{TurnGoesOn_trans}
use Rattle.uv_qp.proofs.laws.turns_go_on_in_turn.Goals as goal

pub returns : goal.returns
returns c = TurnGoesOn_trans
