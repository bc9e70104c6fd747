use Rattle.uv_region.proofs.Journaling.{goes_on_trans}
use Rattle.uv_region.proofs.laws.goes_on_in_turn.Goals as goal

pub returns : goal.returns
returns c = goes_on_trans
