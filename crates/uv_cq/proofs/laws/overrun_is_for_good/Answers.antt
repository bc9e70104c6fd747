use Rattle.uv_cq.proofs.Using.{marked}
use Rattle.uv_cq.proofs.laws.overrun_is_for_good.Goals as goal

pub returns : goal.returns
returns c = marked
