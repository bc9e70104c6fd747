use Rattle.std.proofs.Common.{sym, ◌∙◌, ap}
use Rattle.uv_script.specs.AmissKept.{amiss_seen}
use Rattle.uv_script.specs.Kept.{before_in, seen}
use Rattle.uv_script.proofs.AmissLoops.{amiss-later, number-under}
use Rattle.uv_script.proofs.amiss.first_amiss.Goals as goal

pub loop-rest-preserved : goal.loop-rest-preserved
loop-rest-preserved c =
    amiss-later (before_in c.loop-rest.context) (before_in c.put_read.new.context) c.loop-rest.rest.now c.first_line.result.0.now c.first_line.result.1.now (seen c.in_ok-read.read) _ c.first_line.ensures.lines
    (sym c.in_ok-amiss.ensures ∙ ap amiss_seen c.in_default.is) c.in_ok-read.ensures c.in_ok-put_read.ensures.context c.loop-rest.invariant

pub put_read-requires : goal.put_read-requires
put_read-requires c = number-under (before_in c.loop-rest.context) c.first_line.result.0.now (sym c.in_ok-amiss.ensures ∙ ap amiss_seen c.in_default.is)
