use Rattle.std.proofs.Common.{◌≡◌, drop}
use Rattle.uv_schema.specs.Refusals.{attrs_refusal}
use Rattle.uv_schema.proofs.refusing.first_refusal.Given as goal

abbrev pub invariant-loop-attr : goal.invariant-loop-attr
invariant-loop-attr l = attrs_refusal l.wanted (drop l.attr-index l.attrs) ≡ attrs_refusal l.wanted l.attrs
