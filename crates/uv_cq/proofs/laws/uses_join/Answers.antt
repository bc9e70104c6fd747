use Rattle.uv_cq.proofs.Using.{joined}
use Rattle.uv_cq.proofs.laws.uses_join.Goals as goal

pub returns : goal.returns
returns c = joined
