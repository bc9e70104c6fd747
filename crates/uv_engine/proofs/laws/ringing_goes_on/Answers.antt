use Rattle.uv_engine.proofs.Ringed.{ringing_goes_on}
use Rattle.uv_engine.proofs.laws.ringing_goes_on.Goals as goal

pub returns : goal.returns
returns c = ringing_goes_on
