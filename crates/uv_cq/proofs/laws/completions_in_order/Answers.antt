use Rattle.uv_cq.proofs.Using.{in_order}
use Rattle.uv_cq.proofs.laws.completions_in_order.Goals as goal

pub returns : goal.returns
returns c = in_order
