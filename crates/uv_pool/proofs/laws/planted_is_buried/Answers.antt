use Rattle.uv_pool.proofs.Burying.{planted_buried}
use Rattle.uv_pool.proofs.laws.planted_is_buried.Goals as goal

pub returns : goal.returns
returns c = planted_buried
