use Rattle.uv_desk.proofs.All.{any_order_is_all}
use Rattle.uv_desk.proofs.laws.any_order_is_all.Goals as goal

pub returns : goal.returns
returns g c = any_order_is_all
