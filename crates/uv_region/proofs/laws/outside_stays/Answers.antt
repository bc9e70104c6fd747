use Rattle.uv_region.proofs.Journaling.{outside_kept}
use Rattle.uv_region.proofs.laws.outside_stays.Goals as goal

pub returns : goal.returns
returns c = outside_kept
