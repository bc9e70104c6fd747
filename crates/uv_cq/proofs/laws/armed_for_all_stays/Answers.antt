use Rattle.uv_cq.proofs.Using.{stays_armed}
use Rattle.uv_cq.proofs.laws.armed_for_all_stays.Goals as goal

pub returns : goal.returns
returns c = stays_armed
