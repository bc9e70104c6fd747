-- The grammar of command bytes: what bytes a call has. Field by field_at the header and the attributes of
-- `rdma/rdma_user_ioctl_cmds.h`, `struct ib_uverbs_ioctl_hdr` and `struct ib_uverbs_attr`.
use Rattle.std.specs.Prelude.{◌≡◌, ℕ, ◌+◌, ◌*◌, ◌≤◌, ◌<◌, ◌^◌, Bool, false, ◌||◌, ◌==◌, List, [], ◌∷◌, ◌++◌, length, map, if◌then◌else◌}
use Rattle.std.specs.List.{list_any, flat_map, AllByRecursion}
use Rattle.std.specs.Int.{w16, w32, w64, to_le_bytes}
use Rattle.uv_attr.specs.declared.call.Attr.{Attr}
use Rattle.uv_attr.specs.declared.call.Call.{Call}
use Rattle.uv_attr.specs.declared.call.TheConstants.{ATTR_BYTES, HEADER_BYTES, MOST_ATTRS}

-- bit 0 says that the method has to know the attribute, bit 1 that the kernel writes it
abbrev pub attr_flags : Attr → ℕ
attr_flags a = (if a.mandatory then 1 else 0) + (if a.output then 2 else 0)

-- attr_id, len, flags, attr_data and data
abbrev pub attr_bytes : Attr → List ℕ
attr_bytes a = to_le_bytes w16 a.id ++ to_le_bytes w16 a.len ++ to_le_bytes w16 (attr_flags a) ++ to_le_bytes w16 0 ++ to_le_bytes w64 a.value

-- length, object_id, method_id, num_attrs, reserved1, driver_id and reserved2
abbrev pub header_bytes : Call → List ℕ
header_bytes c =
    to_le_bytes w16 (HEADER_BYTES + ATTR_BYTES * length c.attrs) ++ to_le_bytes w16 c.object ++ to_le_bytes w16 c.method ++ to_le_bytes w16 (length c.attrs)
    ++ to_le_bytes w64 0 ++ to_le_bytes w32 c.driver ++ to_le_bytes w32 0

-- the header, and then the attributes
abbrev pub call_bytes : Call → List ℕ
call_bytes c = header_bytes c ++ flat_map attr_bytes c.attrs

-- an id stands twice
abbrev pub repeats : List ℕ → Bool
repeats [] = false
repeats (id ∷ ids) = list_any (λ other. other == id) ids || repeats ids

-- the ids of a call's attributes, in their order
abbrev pub attr_ids : List Attr → List ℕ
attr_ids attrs = map (λ a. a.id) attrs

-- the bytes are that call's, and it has no more attributes than a command may, each with an id of its own
pub record IsCommand (bytes : List ℕ) (call : Call) : Type 0 where
  pub spelled : bytes ≡ call_bytes call
  pub few : length call.attrs ≤ MOST_ATTRS
  pub distinct : repeats (attr_ids call.attrs) ≡ false

-- each number is one that its field_at holds
pub record AttrFits (a : Attr) : Type 0 where
  pub id : a.id < 2 ^ 16
  pub len : a.len < 2 ^ 16
  pub value : a.value < 2 ^ 64

pub record CallFits (c : Call) : Type 0 where
  pub object : c.object < 2 ^ 16
  pub method : c.method < 2 ^ 16
  pub driver : c.driver < 2 ^ 32
  pub attrs : AllByRecursion AttrFits c.attrs
