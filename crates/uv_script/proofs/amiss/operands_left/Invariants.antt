use Rattle.std.proofs.Common.{◌≡◌, drop}
use Rattle.uv_script.specs.Amiss.{operands_left}
use Rattle.uv_script.specs.Kept.{look_kept}
use Rattle.uv_script.specs.Words.{words_of}
use Rattle.uv_script.proofs.amiss.operands_left.Given as goal

abbrev pub invariant-loop-operand : goal.invariant-loop-operand
invariant-loop-operand l =
    operands_left (look_kept l.names) (drop l.operand-index l.operands) (words_of l.rest) ≡ operands_left (look_kept l.names) l.operands (words_of l.text)
