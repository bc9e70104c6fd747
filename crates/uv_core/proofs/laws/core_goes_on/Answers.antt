use Rattle.uv_core.proofs.Playing.{core_goes_on}
use Rattle.uv_core.proofs.laws.core_goes_on.Goals as goal

pub returns : goal.returns
returns c = core_goes_on
