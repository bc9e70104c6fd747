-- Frames on the link, without the room that their bytes keep.
use Rattle.std.specs.Prelude.{◌≡◌, ◌<◌, ◌≤◌, ◌++◌, ℕ, List, length, slice_get}
use Rattle.std.specs.Option.{option_to_list}
use Rattle.uv_num.specs.declared.limits.TheConstants.{LINK_FRAMES}
use Rattle.uv_link.specs.declared.frame.Frame.{Frame}
use Rattle.uv_link.specs.declared.link.Duped.{Duped}
use Rattle.uv_link.specs.declared.link.Duped.TheVariants as duped

-- a frame, its bytes as a list
pub record PlainFrame : Type 0 where
  pub from : ℕ
  pub to : ℕ
  pub bytes : List ℕ

-- a frame seen so
abbrev pub plain_frame : Frame → PlainFrame
plain_frame f = record { from = f.from; to = f.to; bytes = f.bytes.bytes }

-- the frames with a copy of that at a place at the back, if one stands there
abbrev pub with_copy : List PlainFrame → ℕ → List PlainFrame
with_copy frames at = frames ++ option_to_list (slice_get frames at)

-- what each answer of a doubling says: none stands there, else the link is full, else there is a copy unless memory ran out
abbrev pub DupGives : List PlainFrame → ℕ → Duped → List PlainFrame → Type 0
DupGives old at duped.None new = (length old ≤ at) × (new ≡ old)
DupGives old at duped.Full new = (at < length old) × (length old ≡ LINK_FRAMES) × (new ≡ old)
DupGives old at duped.NoMemory new = (at < length old) × (length old < LINK_FRAMES) × (new ≡ old)
DupGives old at duped.Did new = (at < length old) × (length old < LINK_FRAMES) × (new ≡ with_copy old at)
