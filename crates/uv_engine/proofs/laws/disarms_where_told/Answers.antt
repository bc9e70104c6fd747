use Rattle.uv_engine.proofs.Ringed.{disarms_where_told}
use Rattle.uv_engine.proofs.laws.disarms_where_told.Goals as goal

pub returns : goal.returns
returns c = disarms_where_told
