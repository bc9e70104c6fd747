use Rattle.std.proofs.Common.{◌≡◌, ◌-◌}
use Rattle.uv_machine.specs.States.{least_from}
use Rattle.uv_machine.specs.Marking.{is_marked}
use Rattle.uv_machine.proofs.marks.least_unmarked.Given as goal

abbrev pub invariant-loop-number : goal.invariant-loop-number
invariant-loop-number l = least_from (is_marked l.table) l.number (256 - l.number) ≡ least_from (is_marked l.table) 0 256
