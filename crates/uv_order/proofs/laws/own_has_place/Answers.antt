use Rattle.uv_order.proofs.Placing.{own_has_place}
use Rattle.uv_order.proofs.laws.own_has_place.Goals as goal

pub returns : goal.returns
returns g c = own_has_place _
