use Rattle.std.proofs.Common.{◌≡◌, ◌+◌, length}
use Rattle.uv_region.specs.Several.{lent_written, MayWriteAll}
use Rattle.uv_region.proofs.several.write_each.Given as goal

abbrev pub invariant-loop : goal.invariant-loop
invariant-loop l = record {
  regions : lent_written l.regions l.kind l.qp l.domain l.writes ≡ lent_written l.initial.regions l.kind l.qp l.domain l.initial.writes;
  may : MayWriteAll l.regions l.kind l.qp l.domain l.writes;
  count : l.counter + length l.writes ≡ l.end;
}
