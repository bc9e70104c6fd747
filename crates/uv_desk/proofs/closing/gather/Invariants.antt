use Rattle.std.proofs.Common.{length}
use Rattle.uv_desk.specs.Seats.{IsSame}
use Rattle.uv_desk.proofs.Joined.{IsGathering}
use Rattle.uv_desk.proofs.closing.gather.Given as goal

abbrev pub invariant-loop-seats : goal.invariant-loop-seats
invariant-loop-seats g l = IsSame l.fn.first l.first × IsGathering l.board.table_id l.fn.first.me l.fn.seats.items l.seats.items l.first.me

abbrev pub decreases-loop-seats : goal.decreases-loop-seats
decreases-loop-seats g l = length l.seats.items
