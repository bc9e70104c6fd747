use Rattle.uv_order.proofs.Summing.{sums_turn}
use Rattle.uv_order.proofs.laws.sums_turn.Goals as goal

pub returns : goal.returns
returns c = sums_turn
