use Rattle.uv_order.proofs.Chaining.{in_order}
use Rattle.uv_order.proofs.laws.first_in_first_out.Goals as goal

pub returns : goal.returns
returns g c = in_order _ _
