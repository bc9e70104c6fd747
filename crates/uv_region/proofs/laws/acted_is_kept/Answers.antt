use Rattle.uv_region.proofs.Keeping.{kept_after}
use Rattle.uv_region.proofs.laws.acted_is_kept.Goals as goal

pub returns : goal.returns
returns c = kept_after
