use Rattle.std.proofs.Common.{◌≡◌, ◌-◌, ◌*◌, ◌≤◌, length}
use Rattle.uv_attr.specs.Reading.{raws}
use Rattle.uv_attr.specs.RuleNames.{raws_rule}
use Rattle.uv_attr.proofs.rules.raws_rule.Given as goal

abbrev pub invariant-loop : goal.invariant-loop
invariant-loop l =
    (raws_rule (raws (l.count - l.counter) l.rest) ≡ raws_rule (raws l.count l.bytes))
    × (16 * (l.count - l.counter) ≤ length l.rest)
