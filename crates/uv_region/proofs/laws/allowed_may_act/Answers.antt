use Rattle.uv_region.proofs.Reaching.{ready_with_room}
use Rattle.uv_region.proofs.laws.allowed_may_act.Goals as goal

pub returns : goal.returns
returns c = ready_with_room
