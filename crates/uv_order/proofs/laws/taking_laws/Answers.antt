use Rattle.uv_order.proofs.Taking.{taking}
use Rattle.uv_order.proofs.laws.taking_laws.Goals as goal

pub returns : goal.returns
returns g c = taking _
