use Rattle.std.proofs.Common.{rules}
use Rattle.uv_attr.proofs.Rows.{read-more, read-all, room-more}
use Rattle.uv_attr.proofs.decoding.attrs_at.Goals as goal

pub loop-preserved : goal.loop-preserved
loop-preserved c =
    (read-more c.args.count c.loop.counter c.loop.rest.now c.split_at.result.1.now c.loop.attrs c.push.new.self _ c.attr_at.result (search rules) c.loop-test.true c.attr_at.ensures c.in_ok-push.ensures.ok c.loop.invariant.0, room-more c.args.count c.loop.counter c.loop.rest.now c.split_at.result.1.now (search rules) c.loop-test.true c.loop.invariant.1)

pub returns : goal.returns
returns c = read-all c.args.count c.loop.counter c.loop.rest.now c.loop.attrs _ c.loop-test.false c.loop.invariant.0
