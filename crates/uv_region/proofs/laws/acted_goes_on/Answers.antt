use Rattle.uv_region.proofs.Journaling.{acted_on}
use Rattle.uv_region.proofs.laws.acted_goes_on.Goals as goal

pub returns : goal.returns
returns c = acted_on
