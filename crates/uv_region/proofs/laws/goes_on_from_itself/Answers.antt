use Rattle.uv_region.proofs.Journaling.{goes_on_refl}
use Rattle.uv_region.proofs.laws.goes_on_from_itself.Goals as goal

pub returns : goal.returns
returns c = goes_on_refl
