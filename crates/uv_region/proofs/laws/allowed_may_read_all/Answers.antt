use Rattle.uv_region.proofs.Roomy.{may_read_all}
use Rattle.uv_region.proofs.laws.allowed_may_read_all.Goals as goal

pub returns : goal.returns
returns c = may_read_all
