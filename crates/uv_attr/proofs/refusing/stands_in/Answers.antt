use Rattle.std.proofs.Common.{rules}
use Rattle.std.proofs.lemmas.Bool.{ne_eqb, eq-eqb}
use Rattle.uv_attr.proofs.Rows.{stands-more, stands-found, stands-none, room-more}
use Rattle.uv_attr.proofs.refusing.stands_in.Goals as goal

pub loop-preserved : goal.loop-preserved
loop-preserved c =
    (stands-more c.args.count c.loop.counter c.args.id c.loop.rest.now c.split_at.result.1.now _ (search rules) c.loop-test.true (ne_eqb _ _ (search rules)) c.loop.invariant.0, room-more c.args.count c.loop.counter c.loop.rest.now c.split_at.result.1.now (search rules) c.loop-test.true c.loop.invariant.1)

pub returns-then-u16_at-id : goal.returns-then-u16_at-id
returns-then-u16_at-id c = stands-found c.args.count c.loop.counter c.args.id c.loop.rest.now _ c.loop-test.true (eq-eqb _ _ (search rules)) c.loop.invariant.0

pub returns : goal.returns
returns c = stands-none c.args.count c.loop.counter c.args.id c.loop.rest.now _ c.loop-test.false c.loop.invariant.0
