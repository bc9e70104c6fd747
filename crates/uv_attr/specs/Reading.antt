-- What stands in the fields of bytes, whether they are a command or not.
use Rattle.std.specs.Prelude.{ℕ, zero, suc, ◌/◌, ◌%◌, ◌==◌, List, [], ◌∷◌, map, drop}
use Rattle.std.specs.Int.{w16, w32, w64}
use Rattle.uv_attr.specs.declared.call.Attr.{Attr}
use Rattle.uv_attr.specs.declared.call.Call.{Call}
use Rattle.uv_attr.specs.declared.call.TheConstants.{ATTR_BYTES, HEADER_BYTES}
use Rattle.uv_attr.specs.Fields.{field_at}

-- the fields of the header
abbrev pub stated_length : List ℕ → ℕ
stated_length bytes = field_at w16 0 bytes

abbrev pub attr_count : List ℕ → ℕ
attr_count bytes = field_at w16 6 bytes

abbrev pub reserved1 : List ℕ → ℕ
reserved1 bytes = field_at w64 8 bytes

abbrev pub reserved2 : List ℕ → ℕ
reserved2 bytes = field_at w32 20 bytes

-- the fields of an attribute, of which the flags and attr_data may be ones that no attribute has
pub record RawAttr : Type 0 where
  pub id : ℕ
  pub len : ℕ
  pub flags : ℕ
  pub attr_data : ℕ
  pub value : ℕ

abbrev pub raw_of : List ℕ → RawAttr
raw_of bytes = record { id = field_at w16 0 bytes; len = field_at w16 2 bytes; flags = field_at w16 4 bytes; attr_data = field_at w16 6 bytes; value = field_at w64 8 bytes }

-- so many of them, one after the other
unfoldable pub raws : ℕ → List ℕ → List RawAttr
raws zero bytes = []
raws (suc n) bytes = raw_of bytes ∷ raws n (drop ATTR_BYTES bytes)

-- those that follow a header
abbrev pub raws_of : List ℕ → List RawAttr
raws_of bytes = raws (attr_count bytes) (drop HEADER_BYTES bytes)

-- an attribute by its flag bits
abbrev pub attr_of : RawAttr → Attr
attr_of r = record { id = r.id; len = r.len; mandatory = r.flags % 2 == 1; output = r.flags / 2 % 2 == 1; value = r.value }

abbrev pub call_in : List ℕ → Call
call_in bytes = record { object = field_at w16 2 bytes; method = field_at w16 4 bytes; driver = field_at w32 16 bytes; attrs = map attr_of (raws_of bytes) }
