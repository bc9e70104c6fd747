use Rattle.uv_cq.proofs.Using.{few_endings}
use Rattle.uv_cq.proofs.laws.few_disarms.Goals as goal

pub returns : goal.returns
returns c = few_endings
