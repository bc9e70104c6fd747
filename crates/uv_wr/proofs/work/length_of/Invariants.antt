use Rattle.std.proofs.Common.{◌≡◌, ◌≤◌, ◌*◌, ◌^◌, ◌-◌, take}
use Rattle.std.specs.List.{sum_by}
use Rattle.uv_wr.specs.Works.{part_length}
use Rattle.uv_wr.proofs.work.length_of.Given as goal

abbrev pub invariant-loop-part : goal.invariant-loop-part
invariant-loop-part l = (l.whole ≡ sum_by part_length (take l.part-index l.parts)) × (l.whole ≤ l.part-index * (2 ^ 32 - 1))
