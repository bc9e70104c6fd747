use Rattle.std.proofs.Common.{take}
use Rattle.std.specs.List.{list_any}
use Rattle.uv_machine.specs.Objects.{has_handle}
use Rattle.uv_machine.specs.Marking.{Marks}
use Rattle.uv_machine.proofs.marks.mark_handles.Given as goal

abbrev pub invariant-loop-x : goal.invariant-loop-x
invariant-loop-x l = Marks (λ n. list_any (has_handle l.file n) (take l.x-index l.objects)) l.initial.table l.table
