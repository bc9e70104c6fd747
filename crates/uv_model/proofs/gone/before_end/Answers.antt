use Rattle.std.proofs.Common.{sym, ◌∙◌, add-one, arith}
use Rattle.uv_model.proofs.Ends.{before-next, before-until, before-all}
use Rattle.uv_model.proofs.gone.before_end.Goals as goal

pub loop-at-preserved : goal.loop-at-preserved
loop-at-preserved c =
    rw add-one (before-next _ c.args.entries.now c.loop-at.at c.loop-at-test.true (sym c.begins.ensures ∙ c.if-begins.false) c.loop-at.invariant)

pub returns-then-begins : goal.returns-then-begins
returns-then-begins c =
    before-until _ c.args.entries.now c.loop-at.at c.loop-at-test.true (sym c.begins.ensures ∙ c.if-begins.true) c.loop-at.invariant

pub returns : goal.returns
returns c = before-all c.args.entries.now c.loop-at.at (omega arith) c.loop-at.invariant
