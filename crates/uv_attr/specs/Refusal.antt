-- When bytes are refused: the first case of five that applies. The cases and their order are this project's own.
use Rattle.std.specs.Prelude.{ℕ, ◌+◌, ◌*◌, Bool, not, ◌||◌, ◌==◌, nat_lt, if◌then◌else◌, List, length, map, Option, Some, None}
use Rattle.std.specs.List.{list_any}
use Rattle.uv_attr.specs.declared.call.TheConstants.{ATTR_BYTES, HEADER_BYTES, KNOWN_FLAGS, MOST_ATTRS}
use Rattle.uv_attr.specs.declared.fault.CallFault.{CallFault}
use Rattle.uv_attr.specs.declared.fault.CallFault.TheVariants.{Inval, ProtoNoSupport}
use Rattle.uv_attr.specs.Command.{repeats}
use Rattle.uv_attr.specs.Reading.{stated_length, attr_count, reserved1, reserved2, RawAttr, raws_of}

-- 1. there are fewer bytes than a header has
abbrev pub lacks_header : List ℕ → Bool
lacks_header bytes = nat_lt (length bytes) HEADER_BYTES

-- 2. the length isn't that of a header with so many attributes, or not that of the bytes
abbrev pub is_misstated : List ℕ → Bool
is_misstated bytes = not (stated_length bytes == HEADER_BYTES + ATTR_BYTES * attr_count bytes) || not (stated_length bytes == length bytes)

-- 3. a reserved field_at of the header isn't 0
abbrev pub has_reserved : List ℕ → Bool
has_reserved bytes = not (reserved1 bytes == 0) || not (reserved2 bytes == 0)

-- 4. there are more attributes than a command may have
abbrev pub is_long : List ℕ → Bool
is_long bytes = nat_lt MOST_ATTRS (attr_count bytes)

-- 5. an attribute has a flag that isn't known, or its attr_data isn't 0, or an earlier one has its id
abbrev pub is_malformed : RawAttr → Bool
is_malformed r = nat_lt KNOWN_FLAGS r.flags || not (r.attr_data == 0)

abbrev pub raw_ids : List RawAttr → List ℕ
raw_ids rs = map (λ r. r.id) rs

abbrev pub has_wrong : List RawAttr → Bool
has_wrong rs = list_any is_malformed rs || repeats (raw_ids rs)

abbrev pub bytes_refusal : List ℕ → Option CallFault
bytes_refusal bytes =
    if lacks_header bytes then Some Inval
    else (if is_misstated bytes then Some Inval
    else (if has_reserved bytes then Some ProtoNoSupport
    else (if is_long bytes then Some Inval
    else (if has_wrong (raws_of bytes) then Some Inval
    else None))))
