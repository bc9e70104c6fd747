use Rattle.uv_region.proofs.Journaling.{passes_all}
use Rattle.uv_region.proofs.laws.allowed_passes_all.Goals as goal

pub returns : goal.returns
returns c = passes_all
