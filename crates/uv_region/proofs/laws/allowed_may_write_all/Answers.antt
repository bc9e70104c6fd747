use Rattle.uv_region.proofs.Roomy.{may_write_all}
use Rattle.uv_region.proofs.laws.allowed_may_write_all.Goals as goal

pub returns : goal.returns
returns c = may_write_all
