use Rattle.std.proofs.Common.{rules, sym, ◌∙◌}
use Rattle.uv_attr.proofs.Rows.{room-more}
use Rattle.uv_attr.proofs.RuleRows.{rule-more, rule-found, rule-none}
use Rattle.uv_attr.proofs.rules.raws_rule.Goals as goal

pub returns-in-Some : goal.returns-in-Some
returns-in-Some c = rule-found c.args.count c.loop.counter c.loop.rest.now c.in-Some.rule _ c.loop-test.true (sym c.raw_rule.ensures ∙ c.in-Some.is) c.loop.invariant.0

pub loop-preserved : goal.loop-preserved
loop-preserved c =
    (rule-more c.args.count c.loop.counter c.loop.rest.now c.split_at.result.1.now _ (search rules) c.loop-test.true (sym c.raw_rule.ensures ∙ c.in_default.is) c.loop.invariant.0, room-more c.args.count c.loop.counter c.loop.rest.now c.split_at.result.1.now (search rules) c.loop-test.true c.loop.invariant.1)

pub returns : goal.returns
returns c = rule-none c.args.count c.loop.counter c.loop.rest.now _ c.loop-test.false c.loop.invariant.0
