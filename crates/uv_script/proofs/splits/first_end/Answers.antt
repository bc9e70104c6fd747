use Rattle.std.proofs.Common.{add-one, arith}
use Rattle.uv_script.proofs.FirstLines.{lines_of-feed, lines_of-whole}
use Rattle.uv_script.proofs.splits.first_end.Goals as goal

pub returns-then-byte-eq10-clause-lines : goal.returns-then-byte-eq10-clause-lines
returns-then-byte-eq10-clause-lines c =
    rw add-one (lines_of-feed c.args.bytes.now c.loop-at.at c.loop-at-test.true c.loop-at.invariant c.if-byte-eq10.true)

pub returns-clause-lines : goal.returns-clause-lines
returns-clause-lines c =
    lines_of-whole c.args.bytes.now c.requires (λ k below. c.loop-at.invariant k (omega arith))
