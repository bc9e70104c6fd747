-- Which rule refuses bytes. The tests are those of the refusal in `Refusal`, in the same order; where one case of it has several
-- tests, each has a rule of its own. The law at the end ties the rules to the refusal. A key is this project's own; a source is
-- the place whose rule it is.
use Rattle.std.specs.Prelude.{◌≡◌, ℕ, ◌+◌, ◌*◌, not, ◌==◌, nat_lt, if◌then◌else◌, List, [], ◌∷◌, length, codes, Option, Some, None, option_map}
use Rattle.std.specs.Option.{option_or}
use Rattle.uv_num.specs.declared.errno.Errno.{Errno}
use Rattle.uv_num.specs.declared.errno.Errno.TheVariants as errno
use Rattle.uv_attr.specs.declared.call.TheConstants.{ATTR_BYTES, HEADER_BYTES, KNOWN_FLAGS}
use Rattle.uv_attr.specs.declared.fault.CallFault.{CallFault}
use Rattle.uv_attr.specs.declared.fault.CallFault.TheVariants.{Inval, ProtoNoSupport}
use Rattle.uv_attr.specs.declared.rule.BytesRule.{BytesRule}
use Rattle.uv_attr.specs.declared.rule.BytesRule.TheVariants.{Header, Length, Count, Reserved, Attrs, Flags, Data, Twice}
use Rattle.uv_attr.specs.Command.{repeats}
use Rattle.uv_attr.specs.Reading.{stated_length, attr_count, RawAttr, raws_of}
use Rattle.uv_attr.specs.Refusal.{lacks_header, has_reserved, is_long, raw_ids, bytes_refusal}

-- The tables.

-- what bytes are refused with
abbrev pub bytes_fault : BytesRule → CallFault
bytes_fault Header = Inval
bytes_fault Length = Inval
bytes_fault Count = Inval
bytes_fault Reserved = ProtoNoSupport
bytes_fault Attrs = Inval
bytes_fault Flags = Inval
bytes_fault Data = Inval
bytes_fault Twice = Inval

-- its errno
abbrev pub bytes_errno : BytesRule → Errno
bytes_errno Header = errno.Inval
bytes_errno Length = errno.Inval
bytes_errno Count = errno.Inval
bytes_errno Reserved = errno.ProtoNoSupport
bytes_errno Attrs = errno.Inval
bytes_errno Flags = errno.Inval
bytes_errno Data = errno.Inval
bytes_errno Twice = errno.Inval

-- the key that tells a rule from every other
abbrev pub bytes_key : BytesRule → List ℕ
bytes_key Header = codes "bytes-header"
bytes_key Length = codes "bytes-length"
bytes_key Count = codes "bytes-count"
bytes_key Reserved = codes "bytes-reserved"
bytes_key Attrs = codes "bytes-attrs"
bytes_key Flags = codes "bytes-flags"
bytes_key Data = codes "bytes-data"
bytes_key Twice = codes "bytes-twice"

-- files and functions of Linux whose rule it is, or `own`
abbrev pub bytes_source : BytesRule → List ℕ
bytes_source Header = codes "own"
bytes_source Length = codes "uverbs_ioctl.c, ib_uverbs_ioctl"
bytes_source Count = codes "own"
bytes_source Reserved = codes "uverbs_ioctl.c, ib_uverbs_ioctl"
bytes_source Attrs = codes "own"
bytes_source Flags = codes "own"
bytes_source Data = codes "uverbs_ioctl.c, uverbs_process_attr"
bytes_source Twice = codes "uverbs_ioctl.c, uverbs_set_attr"

-- Attributes: the first that is malformed, of which the flags are looked at first, and then an id that stands twice.

abbrev pub raw_rule : RawAttr → Option BytesRule
raw_rule r = if nat_lt KNOWN_FLAGS r.flags then Some Flags else (if not (r.attr_data == 0) then Some Data else None)

abbrev pub raws_rule : List RawAttr → Option BytesRule
raws_rule [] = None
raws_rule (r ∷ rs) = option_or (raw_rule r) (raws_rule rs)

abbrev pub wrong_rule : List RawAttr → Option BytesRule
wrong_rule rs = option_or (raws_rule rs) (if repeats (raw_ids rs) then Some Twice else None)

-- Bytes.

abbrev pub bytes_rule : List ℕ → Option BytesRule
bytes_rule bytes =
    if lacks_header bytes then Some Header
    else (if not (stated_length bytes == HEADER_BYTES + ATTR_BYTES * attr_count bytes) then Some Length
    else (if not (stated_length bytes == length bytes) then Some Count
    else (if has_reserved bytes then Some Reserved
    else (if is_long bytes then Some Attrs
    else wrong_rule (raws_of bytes)))))

-- The law: there is a rule exactly where bytes are refused, and it tells what they are refused with.

abbrev pub BytesHaveRule : Type 0
BytesHaveRule = (bytes : List ℕ) → option_map bytes_fault (bytes_rule bytes) ≡ bytes_refusal bytes
