-- Actions on a region, without the room that their bytes keep.
use Rattle.std.specs.Prelude.{◌≡◌, ◌<◌, ℕ, Bool, true, false, List, Option, length}
use Rattle.uv_region.specs.declared.action.Access.{Access}
use Rattle.uv_region.specs.declared.action.Access.TheVariants.{LocalRead, LocalWrite, RemoteRead, RemoteWrite}
use Rattle.uv_region.specs.declared.action.Action.{Action}
use Rattle.uv_region.specs.declared.action.Window.{Window}

-- an action, its bytes as a list
pub record PlainAction : Type 0 where
  pub kind : Access
  pub offset : ℕ
  pub length : ℕ
  pub bytes : List ℕ
  pub qp : ℕ
  pub domain : ℕ
  pub window : Option Window

-- an action seen so
abbrev pub plain : Action → PlainAction
plain a = record {
  kind = a.kind;
  offset = a.offset;
  length = a.length;
  bytes = a.bytes.bytes;
  qp = a.qp;
  domain = a.domain;
  window = a.window;
}

-- whether an access reads; the others write
abbrev pub is_read : Access → Bool
is_read LocalRead = true
is_read LocalWrite = false
is_read RemoteRead = true
is_read RemoteWrite = false

-- an action as a journal holds it has a length, and as many bytes
pub record IsWhole (a : PlainAction) : Type 0 where
  pub some : 0 < a.length
  pub all : length a.bytes ≡ a.length

-- an action has a length, and a write brings as many bytes
pub record CanBeMade (a : PlainAction) : Type 0 where
  pub some : 0 < a.length
  pub brings : is_read a.kind ≡ false → length a.bytes ≡ a.length
