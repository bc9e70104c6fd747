use Rattle.uv_pool.proofs.Burying.{new_planted}
use Rattle.uv_pool.proofs.laws.new_is_planted.Goals as goal

pub returns : goal.returns
returns c = new_planted
