use Rattle.std.proofs.Common.{◌≡◌, map, Some}
use Rattle.uv_pool.proofs.pool.all_of.Given as goal

abbrev pub invariant-loop-slot : goal.invariant-loop-slot
invariant-loop-slot g l = map Some l.deeds.items ≡ l.yielded
