use Rattle.std.proofs.Common.{◌≡◌, ◌≤◌, ◌+◌, ◌++◌, length}
use Rattle.uv_region.specs.Several.{gathered, lent_read, pieces_length, MayReadAll}
use Rattle.uv_region.proofs.several.read_all.Given as goal

abbrev pub invariant-loop : goal.invariant-loop
invariant-loop l = record {
  ready : MayReadAll l.regions l.kind l.qp l.domain l.blanks;
  lent : lent_read l.regions l.kind l.qp l.domain l.blanks ≡ lent_read l.initial.regions l.kind l.qp l.domain l.initial.blanks;
  payload : l.payload.bytes ++ gathered l.regions l.kind l.qp l.domain l.blanks ≡ l.initial.payload.bytes ++ gathered l.initial.regions l.kind l.qp l.domain l.initial.blanks;
  spare : pieces_length l.blanks ≤ l.payload.spare;
  count : l.counter + length l.blanks ≡ l.end;
}
