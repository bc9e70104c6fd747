use Rattle.std.proofs.Common.{rules, sym, ◌∙◌}
use Rattle.uv_attr.proofs.Rows.{repeats-found, repeats-more, repeats-none, room-more}
use Rattle.uv_attr.proofs.refusing.repeats_raw.Goals as goal

pub returns-then-stands_in : goal.returns-then-stands_in
returns-then-stands_in c = repeats-found c.args.count c.loop-done.done c.u16_at-id.result c.loop-done.rest.now c.split_at.result.1.now _ (search rules) c.loop-done-test.true c.u16_at-id.ensures (sym c.stands_in.ensures ∙ c.if-stands_in.true) c.loop-done.invariant.0

pub loop-done-preserved : goal.loop-done-preserved
loop-done-preserved c =
    (repeats-more c.args.count c.loop-done.done c.u16_at-id.result c.loop-done.rest.now c.split_at.result.1.now _ (search rules) c.loop-done-test.true c.u16_at-id.ensures (sym c.stands_in.ensures ∙ c.if-stands_in.false) c.loop-done.invariant.0, room-more c.args.count c.loop-done.done c.loop-done.rest.now c.split_at.result.1.now (search rules) c.loop-done-test.true c.loop-done.invariant.1)

pub returns : goal.returns
returns c = repeats-none c.args.count c.loop-done.done c.loop-done.rest.now _ c.loop-done-test.false c.loop-done.invariant.0
