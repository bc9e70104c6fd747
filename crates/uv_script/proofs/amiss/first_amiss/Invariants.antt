use Rattle.std.proofs.Common.{◌≡◌, length}
use Rattle.uv_script.specs.Amiss.{amiss_from, amiss_of}
use Rattle.uv_script.specs.Kept.{before_in}
use Rattle.uv_script.specs.Lines.{lines_of}
use Rattle.uv_script.proofs.amiss.first_amiss.Given as goal

abbrev pub invariant-loop-rest : goal.invariant-loop-rest
invariant-loop-rest l = amiss_from (before_in l.context) (lines_of l.rest) ≡ amiss_of l.fn.bytes

abbrev pub decreases-loop-rest : goal.decreases-loop-rest
decreases-loop-rest l = length l.rest
