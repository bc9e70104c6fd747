use Rattle.uv_world.proofs.Returns.{outlines_back}
use Rattle.uv_world.proofs.laws.lent_comes_back.Goals as goal

pub returns : goal.returns
returns c windows regions keys lent different same = outlines_back windows regions keys lent different same
