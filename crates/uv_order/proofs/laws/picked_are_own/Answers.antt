use Rattle.uv_order.proofs.Marking.{picked_are_own}
use Rattle.uv_order.proofs.laws.picked_are_own.Goals as goal

pub returns : goal.returns
returns g c = picked_are_own _ _
