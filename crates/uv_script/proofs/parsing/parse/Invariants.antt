use Rattle.std.proofs.Common.{◌+◌, ◌≤◌, length}
use Rattle.std.specs.List.{All}
use Rattle.uv_script.specs.Kept.{before_in}
use Rattle.uv_script.specs.Ranges.{IsInRange}
use Rattle.uv_script.proofs.Left.{IsLeft}
use Rattle.uv_script.proofs.parsing.parse.Given as goal

abbrev pub invariant-loop-rest : goal.invariant-loop-rest
invariant-loop-rest l = record {
  left : IsLeft l.fn.mode (before_in l.context) l.lines l.rest l.fn.bytes;
  number : length l.lines + 1 ≤ l.context.number;
  most : l.context.number ≤ 20001;
  ranges : All IsInRange l.lines;
}

abbrev pub decreases-loop-rest : goal.decreases-loop-rest
decreases-loop-rest l = length l.rest
