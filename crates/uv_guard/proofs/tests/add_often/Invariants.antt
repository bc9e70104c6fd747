use Rattle.std.proofs.Common.{◌≤◌}
use Rattle.uv_guard.specs.Laws.{IsFree}
use Rattle.uv_guard.proofs.tests.add_often.Given as goal

abbrev pub invariant-loop : goal.invariant-loop
invariant-loop g l = (l.added ≤ l.most) × IsFree l.guard l.seat
