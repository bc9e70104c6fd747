-- There is a rule exactly where bytes are refused, and it tells what they are refused with.
use Rattle.std.proofs.Common.{◌≡◌, ℕ, Bool, true, false, List, [], ◌∷◌, Option, Some, None, refl, sym}
use Rattle.std.specs.Prelude.{◌+◌, ◌*◌, not, ◌||◌, ◌==◌, nat_lt, length, option_map, if◌then◌else◌}
use Rattle.std.specs.List.{list_any}
use Rattle.std.specs.Option.{option_or}
use Rattle.std.proofs.lemmas.Option.{none-some}
use Rattle.uv_attr.specs.declared.call.TheConstants.{ATTR_BYTES, HEADER_BYTES, KNOWN_FLAGS}
use Rattle.uv_attr.specs.declared.fault.CallFault.{CallFault}
use Rattle.uv_attr.specs.declared.fault.CallFault.TheVariants.{Inval, ProtoNoSupport}
use Rattle.uv_attr.specs.declared.rule.BytesRule.{BytesRule}
use Rattle.uv_attr.specs.declared.rule.BytesRule.TheVariants.{Header, Length, Count, Reserved, Attrs, Flags, Data, Twice}
use Rattle.uv_attr.specs.Command.{repeats}
use Rattle.uv_attr.specs.Reading.{stated_length, attr_count, RawAttr, raws_of}
use Rattle.uv_attr.specs.Refusal.{lacks_header, has_reserved, is_long, is_malformed, raw_ids, has_wrong}
use Rattle.uv_attr.specs.RuleNames.{bytes_fault, raw_rule, raws_rule, wrong_rule, BytesHaveRule}

-- EINVAL where a test applies
abbrev inval_if : Bool → Option CallFault
inval_if b = if b then Some Inval else None

raw_has : (flags filled : Bool) (later : Option BytesRule) (w : Bool) → option_map bytes_fault later ≡ inval_if w
    → option_map bytes_fault (option_or (if flags then Some Flags else (if filled then Some Data else None)) later) ≡ inval_if ((flags || filled) || w)
raw_has true filled later w h = refl
raw_has false true later w h = refl
raw_has false false later w h = h

raws_have : (rs : List RawAttr) → option_map bytes_fault (raws_rule rs) ≡ inval_if (list_any is_malformed rs)
raws_have [] = refl
raws_have (r ∷ rs) = raw_has (nat_lt KNOWN_FLAGS r.flags) (not (r.attr_data == 0)) (raws_rule rs) (list_any is_malformed rs) (raws_have rs)

twice_has : (first : Option BytesRule) (m t : Bool) → option_map bytes_fault first ≡ inval_if m
    → option_map bytes_fault (option_or first (if t then Some Twice else None)) ≡ inval_if (m || t)
twice_has None true t h = absurd (none-some Inval h)
twice_has None false true h = refl
twice_has None false false h = refl
twice_has (Some r) true t h = h
twice_has (Some r) false t h = absurd (none-some (bytes_fault r) (sym h))

wrong_has : (rs : List RawAttr) → option_map bytes_fault (wrong_rule rs) ≡ inval_if (has_wrong rs)
wrong_has rs = twice_has (raws_rule rs) (list_any is_malformed rs) (repeats (raw_ids rs)) (raws_have rs)

-- the tests before the attributes, in their order
tests_have :
    (header stated count reserved long : Bool) (wrong : Option BytesRule) (w : Bool) → option_map bytes_fault wrong ≡ inval_if w
    → option_map bytes_fault
    (if header then Some Header
    else (if stated then Some Length else (if count then Some Count else (if reserved then Some Reserved else (if long then Some Attrs else wrong)))))
    ≡ (if header then Some Inval
    else (if stated || count then Some Inval else (if reserved then Some ProtoNoSupport else (if long then Some Inval else inval_if w))))
tests_have true stated count reserved long wrong w h = refl
tests_have false true count reserved long wrong w h = refl
tests_have false false true reserved long wrong w h = refl
tests_have false false false true long wrong w h = refl
tests_have false false false false true wrong w h = refl
tests_have false false false false false wrong w h = h

pub bytes_have : BytesHaveRule
bytes_have bytes =
    tests_have
    (lacks_header bytes)
    (not (stated_length bytes == HEADER_BYTES + ATTR_BYTES * attr_count bytes))
    (not (stated_length bytes == length bytes))
    (has_reserved bytes)
    (is_long bytes)
    (wrong_rule (raws_of bytes))
    (has_wrong (raws_of bytes))
    (wrong_has (raws_of bytes))
