use Rattle.std.proofs.Common.{rules}
use Rattle.uv_guard.proofs.Joining.{forks}
use Rattle.uv_guard.proofs.cell.Cell.fork.Goals as goal

pub split_seat-requires : goal.split_seat-requires
split_seat-requires g c = let d = c.requires.deed in (search rules, search rules, forks g.T.Celled.goes_on c.log_laws.ensures _ _ d.0 d.1 d.2)
