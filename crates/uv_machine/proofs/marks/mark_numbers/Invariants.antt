use Rattle.std.proofs.Common.{take}
use Rattle.std.specs.List.{list_any}
use Rattle.uv_machine.specs.Plans.{reserves}
use Rattle.uv_machine.specs.Marking.{Marks}
use Rattle.uv_machine.proofs.marks.mark_numbers.Given as goal

abbrev pub invariant-loop-slot : goal.invariant-loop-slot
invariant-loop-slot l = Marks (λ n. list_any (reserves l.file n) (take l.slot-index l.calls)) l.initial.table l.table
