use Rattle.uv_order.proofs.Chaining.{all_added}
use Rattle.uv_order.proofs.laws.whole_is_added.Goals as goal

pub returns : goal.returns
returns g c = all_added _ _
