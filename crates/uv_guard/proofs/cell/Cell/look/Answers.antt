use Rattle.std.proofs.Common.{rules}
use Rattle.uv_guard.proofs.Takes.{sees}
use Rattle.uv_guard.proofs.cell.Cell.look.Goals as goal

pub load-requires : goal.load-requires
load-requires g c = (search rules, search rules, sees g.T.Celled.goes_on _ _ _ _)
