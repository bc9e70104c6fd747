use Rattle.std.proofs.Common.{◌≡◌, take, None}
use Rattle.std.specs.FinMap.{find}
use Rattle.std.specs.Ordering.{nat_cmp}
use Rattle.uv_region.specs.Lent.{entries_of}
use Rattle.uv_region.proofs.regions.place_of.Given as goal

abbrev pub invariant-loop-at : goal.invariant-loop-at
invariant-loop-at l = find nat_cmp l.key (entries_of (take l.at l.places)) ≡ None
