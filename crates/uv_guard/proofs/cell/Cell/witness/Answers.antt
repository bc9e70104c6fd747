use Rattle.std.proofs.Common.{rules}
use Rattle.uv_guard.proofs.Joining.{tells, told}
use Rattle.uv_guard.proofs.cell.Cell.witness.Goals as goal

pub split_seat-told-requires : goal.split_seat-told-requires
split_seat-told-requires g c = (search rules, search rules, tells g.T.Celled.goes_on _ _)

pub join_seat-requires : goal.join_seat-requires
join_seat-requires g c = (search rules, search rules, search rules, search rules, told g.T.Celled.goes_on _ _ _ _ c.requires.seat)
