use Rattle.std.proofs.Common.{rules}
use Rattle.uv_guard.proofs.Joining.{joins}
use Rattle.uv_guard.proofs.cell.Cell.absorb.Goals as goal

pub join_seat-requires : goal.join_seat-requires
join_seat-requires g c = (search rules, search rules, search rules, search rules, joins g.T.Celled.goes_on _ _ _ _ c.requires.deed c.requires.seat.0)
