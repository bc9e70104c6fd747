use Rattle.uv_order.proofs.Summing.{sums_add}
use Rattle.uv_order.proofs.laws.sums_add.Goals as goal

pub returns : goal.returns
returns g c = sums_add _
