use Rattle.std.proofs.Common.{◌≡◌}
use Rattle.uv_guard.specs.Calls.{IsSame}
use Rattle.uv_guard.proofs.cell.Cell.retire.Given as goal

abbrev pub invariant-loop : goal.invariant-loop
invariant-loop g l = IsSame l.fn.deed l.deed × (l.deed.me ≡ l.fn.deed.me)
