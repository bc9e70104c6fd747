use Rattle.uv_guard.proofs.Joining.{begins}
use Rattle.uv_guard.proofs.cell.Cell.open.Goals as goal

pub vacant-requires : goal.vacant-requires
vacant-requires g c = begins g.T.Celled.goes_on
