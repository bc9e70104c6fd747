use Rattle.uv_cq.proofs.Using.{one_in_order}
use Rattle.uv_cq.proofs.laws.each_use_in_order.Goals as goal

pub returns : goal.returns
returns c = one_in_order
