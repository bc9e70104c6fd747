use Rattle.std.proofs.Common.{◌≡◌, ◌++◌, take}
use Rattle.std.specs.List.{flat_map}
use Rattle.uv_attr.specs.Command.{attr_bytes, header_bytes}
use Rattle.uv_attr.proofs.encoding.encode_call.Given as goal

abbrev pub invariant-loop-attr : goal.invariant-loop-attr
invariant-loop-attr l = l.out.bytes ≡ header_bytes l.call ++ flat_map attr_bytes (take l.attr-index l.call.attrs)
