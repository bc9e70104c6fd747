use Rattle.std.proofs.Common.{◌≡◌, length, take}
use Rattle.uv_region.specs.Lent.{entries_of}
use Rattle.uv_region.proofs.regions.empty_place.Given as goal

abbrev pub invariant-loop-at : goal.invariant-loop-at
invariant-loop-at l = length (entries_of (take l.at l.places)) ≡ l.at
