use Rattle.uv_link.proofs.Framing.{goes_back}
use Rattle.uv_link.proofs.laws.popped_goes_back.Goals as goal

pub returns : goal.returns
returns g c = goes_back
