use Rattle.uv_guard.proofs.Closing.{ends}
use Rattle.uv_guard.proofs.cell.Cell.close.Goals as goal

pub returns : goal.returns
returns g c = let d = c.requires.deed in ends g.T.Celled.goes_on _ _ _ _ d.0 d.1 c.close_with-closed.ensures.values.2
