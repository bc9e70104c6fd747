use Rattle.std.proofs.Common.{◌≡◌}
use Rattle.uv_desk.specs.Counting.{CanAdd}
use Rattle.uv_desk.specs.Laws.{place}
use Rattle.uv_desk.proofs.tests.add.Given as goal

abbrev pub invariant-loop : goal.invariant-loop
invariant-loop g l = CanAdd l.desk l.seat × (place l.seat ≡ place l.fn.seat)
