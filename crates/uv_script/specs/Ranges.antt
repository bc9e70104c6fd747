-- The ranges of what lines say.
use Rattle.std.specs.Prelude.{◌≡◌, ℕ, ◌<◌, ◌≤◌, List, All, length}
use Rattle.uv_num.specs.declared.limits.TheConstants.{CLIENTS, DRIVER, FILES, DEVICES, SCRIPT_LINES}
use Rattle.uv_script.specs.declared.data_calls.TheConstants.{POLLED}
use Rattle.uv_script.specs.declared.form.DataCall.{DataCall}
use Rattle.uv_script.specs.declared.form.DataCall.TheVariants.{Poll, Arm, Event}
use Rattle.uv_script.specs.declared.form.Deed.{Deed}
use Rattle.uv_script.specs.declared.form.Deed.TheVariants.{Open, Call, Refused, Close, Unplug}
use Rattle.uv_script.specs.declared.form.Form.{Form}
use Rattle.uv_script.specs.declared.form.Form.TheVariants.{Plain, Minus, Plus, Die, Data}
use Rattle.uv_script.specs.declared.form.Line.{Line}

-- a client
pub record IsClient (actor : ℕ) : Type 0 where
  pub first : 1 ≤ actor
  pub last : actor ≤ CLIENTS

-- a client or the driver
pub record IsActor (actor : ℕ) : Type 0 where
  pub first : 1 ≤ actor
  pub last : actor ≤ DRIVER

-- a client and a file
pub record IsCaller (actor file : ℕ) : Type 0 where
  pub client : IsClient actor
  pub below : file < FILES

-- an actor may do this: a client what is done on files, and the driver an unplug
abbrev pub MayDo : ℕ → Deed → Type 0
MayDo actor (Open file device) = IsCaller actor file × (device < DEVICES)
MayDo actor (Call file verb) = IsCaller actor file
MayDo actor (Refused errno) = IsClient actor
MayDo actor (Close file) = IsCaller actor file
MayDo actor (Unplug device) = (actor ≡ DRIVER) × (device < DEVICES)

-- a poll takes so many completions at most
pub record IsPollCount (count : ℕ) : Type 0 where
  pub first : 1 ≤ count
  pub last : count ≤ POLLED

abbrev pub HasCallRanges : DataCall → Type 0
HasCallRanges (Poll cq count) = IsPollCount count
HasCallRanges (Arm cq solicited) = Unit {0}
HasCallRanges (Event channel) = Unit {0}

-- the actors, files and devices of a form are some, and the numbers of a call of the data path are in their ranges
abbrev pub HasRanges : Form → Type 0
HasRanges (Plain actor deed) = MayDo actor deed
HasRanges (Minus actor deed) = MayDo actor deed
HasRanges (Plus actor) = IsActor actor
HasRanges (Die client) = IsClient client
HasRanges (Data client call) = IsClient client × HasCallRanges call

abbrev pub IsInRange : Line → Type 0
IsInRange line = HasRanges line.form

-- lines that a script may have
pub record AreLines (lines : List Line) : Type 0 where
  pub limit : length lines ≤ SCRIPT_LINES
  pub ranges : All IsInRange lines
