use Rattle.std.proofs.Common.{◌≡◌, map, take, drop, ◌++◌}
use Rattle.uv_machine.specs.Objects.{on_object}
use Rattle.uv_machine.proofs.object.change_object.Given as goal

abbrev pub invariant-loop-x : goal.invariant-loop-x
invariant-loop-x l = l.objects ≡ map (on_object l.id l.change) (take l.x-index l.initial.objects) ++ drop l.x-index l.initial.objects
