use Rattle.std.proofs.Common.{rules}
use Rattle.uv_guard.proofs.Takes.{unrefers}
use Rattle.uv_guard.proofs.cell.Cell.unrefer.Goals as goal

pub fetch_and-requires : goal.fetch_and-requires
fetch_and-requires g c = let i = c.requires.seat in (search rules, search rules, unrefers g.T.Celled.goes_on _ _ c.args.number _ i.1 i.0 i.3)
