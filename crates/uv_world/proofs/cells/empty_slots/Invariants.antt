use Rattle.std.proofs.Common.{◌≡◌, None, replicate}
use Rattle.uv_world.proofs.cells.empty_slots.Given as goal

abbrev pub invariant-loop-turn : goal.invariant-loop-turn
invariant-loop-turn g l = l.slots ≡ replicate l._turn None
