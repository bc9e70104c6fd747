use Rattle.std.proofs.Common.{◌≡◌, drop}
use Rattle.uv_schema.specs.RuleNames.{attrs_rule}
use Rattle.uv_schema.proofs.rules.attrs_rule.Given as goal

abbrev pub invariant-loop-attr : goal.invariant-loop-attr
invariant-loop-attr l = attrs_rule l.wanted (drop l.attr-index l.attrs) ≡ attrs_rule l.wanted l.attrs
