use Rattle.std.proofs.Common.{◌≡◌, map, Some}
use Rattle.uv_pool.proofs.pool.all_home.Given as goal

abbrev pub invariant-loop-deed : goal.invariant-loop-deed
invariant-loop-deed g l = l.slots.items ≡ map Some l.yielded
