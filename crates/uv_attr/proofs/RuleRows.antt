-- The rule of the attributes, as a loop goes over them.
use Rattle.std.proofs.Common.{◌≡◌, ℕ, ◌+◌, ◌-◌, ◌<◌, ◌≤◌, List, drop, Option, Some, None, refl, sym, ap, ◌∙◌}
use Rattle.std.specs.Option.{option_or}
use Rattle.uv_attr.specs.declared.rule.BytesRule.{BytesRule}
use Rattle.uv_attr.specs.Reading.{raw_of, raws}
use Rattle.uv_attr.specs.RuleNames.{raw_rule, raws_rule}
use Rattle.uv_attr.proofs.Rows.{raws-more, raws-none}

pub rule-more : (n i : ℕ) (bytes others : List ℕ) (total : Option BytesRule) → others ≡ drop 16 bytes → i < n → raw_rule (raw_of bytes) ≡ None → raws_rule (raws (n - i) bytes) ≡ total → raws_rule (raws (n - (i + 1)) others) ≡ total
rule-more n i bytes others total cut lt well so_far =
    let later : Option BytesRule = raws_rule (raws (n - (i + 1)) others) in
    sym (ap raws_rule (raws-more n i bytes others cut lt) ∙ ap (λ v. option_or v later) well) ∙ so_far

pub rule-found : (n i : ℕ) (bytes : List ℕ) (r : BytesRule) (total : Option BytesRule) → i < n → raw_rule (raw_of bytes) ≡ Some r → raws_rule (raws (n - i) bytes) ≡ total → Some r ≡ total
rule-found n i bytes r total lt found so_far =
    let later : Option BytesRule = raws_rule (raws (n - (i + 1)) (drop 16 bytes)) in
    sym (ap raws_rule (raws-more n i bytes (drop 16 bytes) refl lt) ∙ ap (λ v. option_or v later) found) ∙ so_far

pub rule-none : (n i : ℕ) (bytes : List ℕ) (total : Option BytesRule) → n ≤ i → raws_rule (raws (n - i) bytes) ≡ total → None ≡ total
rule-none n i bytes total le so_far = sym (ap raws_rule (raws-none n i bytes le)) ∙ so_far
