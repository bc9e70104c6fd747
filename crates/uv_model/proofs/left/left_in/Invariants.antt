use Rattle.std.proofs.Common.{◌≡◌, ◌++◌, map, filter, drop}
use Rattle.uv_model.specs.Standing.{left_of, is_left}
use Rattle.uv_model.proofs.left.left_in.Given as goal

-- what is told so far and what is left to tell are all
abbrev pub invariant-loop-x : goal.invariant-loop-x
invariant-loop-x l = l.left ++ map left_of (filter is_left (drop l.x-index l.objects)) ≡ map left_of (filter is_left l.objects)
