use Rattle.std.proofs.Common.{rules, sym, ap, ◌∙◌}
use Rattle.uv_attr.proofs.Rows.{malformed-more, malformed-found, room-more, raws-none}
use Rattle.std.specs.List.{list_any}
use Rattle.uv_attr.specs.Refusal.{is_malformed}
use Rattle.uv_attr.proofs.refusing.has_malformed.Goals as goal

pub loop-preserved : goal.loop-preserved
loop-preserved c =
    (malformed-more c.args.count c.loop.counter c.loop.rest.now c.split_at.result.1.now _ (search rules) c.loop-test.true (sym c.is_malformed.ensures ∙ c.if-is_malformed.false) c.loop.invariant.0, room-more c.args.count c.loop.counter c.loop.rest.now c.split_at.result.1.now (search rules) c.loop-test.true c.loop.invariant.1)

pub returns : goal.returns
returns c = sym (ap (list_any is_malformed) (raws-none c.args.count c.loop.counter c.loop.rest.now c.loop-test.false)) ∙ c.loop.invariant.0

pub returns-then-is_malformed : goal.returns-then-is_malformed
returns-then-is_malformed c = malformed-found c.args.count c.loop.counter c.loop.rest.now _ c.loop-test.true (sym c.is_malformed.ensures ∙ c.if-is_malformed.true) c.loop.invariant.0
