use Rattle.uv_guard.proofs.Fresh.{fresh}
use Rattle.uv_guard.proofs.laws.fresh_laws.Goals as goal

pub returns : goal.returns
returns g c = fresh g.row.T.Denot
