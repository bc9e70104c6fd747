use Rattle.uv_region.proofs.Reaching.{room_unknown}
use Rattle.uv_region.proofs.laws.room_is_not_known.Goals as goal

pub returns : goal.returns
returns c = room_unknown
