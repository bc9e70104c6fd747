use Rattle.uv_world.proofs.Waiting.{waiting_goes_on}
use Rattle.uv_world.proofs.laws.waiting_goes_on.Goals as goal

pub returns : goal.returns
returns c = waiting_goes_on
