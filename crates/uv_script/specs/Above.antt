-- Each name stands for what a line above makes.
use Rattle.std.specs.Prelude.{◌≡◌, ℕ, List, [], ◌∷◌, ◌++◌, Option, Some, None, Ok, option_to_list}
use Rattle.std.specs.List.{AllByRecursion, Contains}
use Rattle.uv_num.specs.declared.kind.Kind.{Kind}
use Rattle.uv_num.specs.declared.kind.Kind.TheVariants as kind
use Rattle.uv_script.specs.Script.{script_of}
use Rattle.uv_script.specs.declared.form.DataCall.{DataCall}
use Rattle.uv_script.specs.declared.form.DataCall.TheVariants.{Poll, Arm, Event}
use Rattle.uv_script.specs.declared.form.Deed.{Deed}
use Rattle.uv_script.specs.declared.form.Deed.TheVariants.{Open, Call, Refused, Close, Unplug}
use Rattle.uv_script.specs.declared.form.Form.{Form}
use Rattle.uv_script.specs.declared.form.Form.TheVariants.{Plain, Minus, Plus, Die, Data}
use Rattle.uv_script.specs.declared.form.Handle.{Handle}
use Rattle.uv_script.specs.declared.form.Handle.TheVariants.{Number, Name}
use Rattle.uv_script.specs.declared.form.Line.{Line}
use Rattle.uv_script.specs.declared.form.Mode.{Mode}
use Rattle.uv_script.specs.declared.form.Verb.{Verb}
use Rattle.uv_script.specs.declared.form.Verb.TheVariants.{AllocPd, CreateChannel, CreateCq, CreateSrq, CreateQp, CreateAh, RegMr, AllocMw, Destroy, BindMw, GetAsync}

-- the objects that a call names
abbrev pub objects_in : Verb → List Handle
objects_in AllocPd = []
objects_in CreateChannel = []
objects_in (CreateCq depth channel) = option_to_list channel
objects_in (CreateSrq pd depth) = pd ∷ []
objects_in (CreateQp pd send_cq recv_cq srq service send_depth recv_depth) = pd ∷ send_cq ∷ recv_cq ∷ option_to_list srq
objects_in (CreateAh pd device) = pd ∷ []
objects_in (RegMr pd length access) = pd ∷ []
objects_in (AllocMw pd) = pd ∷ []
objects_in (Destroy k object) = object ∷ []
objects_in (BindMw mw mr offset length access) = mw ∷ option_to_list mr
objects_in GetAsync = []

-- the kind of what a call makes
abbrev pub verb_kind : Verb → Option Kind
verb_kind AllocPd = Some kind.Pd
verb_kind CreateChannel = Some kind.Channel
verb_kind (CreateCq depth channel) = Some kind.Cq
verb_kind (CreateSrq pd depth) = Some kind.Srq
verb_kind (CreateQp pd send_cq recv_cq srq service send_depth recv_depth) = Some kind.Qp
verb_kind (CreateAh pd device) = Some kind.Ah
verb_kind (RegMr pd length access) = Some kind.Mr
verb_kind (AllocMw pd) = Some kind.Mw
verb_kind (Destroy k object) = None
verb_kind (BindMw mw mr offset length access) = None
verb_kind GetAsync = None

-- the same of a deed
abbrev pub objects_by : Deed → List Handle
objects_by (Open file device) = []
objects_by (Call file verb) = objects_in verb
objects_by (Refused errno) = []
objects_by (Close file) = []
objects_by (Unplug device) = []

abbrev pub deed_kind : Deed → Option Kind
deed_kind (Open file device) = None
deed_kind (Call file verb) = verb_kind verb
deed_kind (Refused errno) = None
deed_kind (Close file) = None
deed_kind (Unplug device) = None

-- and of a form
abbrev pub objects_of : Form → List Handle
objects_of (Plain actor deed) = objects_by deed
objects_of (Minus actor deed) = objects_by deed
objects_of (Plus actor) = []
objects_of (Die client) = []
objects_of (Data client call) = []

abbrev pub form_kind : Form → Option Kind
form_kind (Plain actor deed) = deed_kind deed
form_kind (Minus actor deed) = deed_kind deed
form_kind (Plus actor) = None
form_kind (Die client) = None
form_kind (Data client call) = None

-- what a call of the data path names: the number of a line, and the kind of what that line makes
pub record Named : Type 0 where
  pub line : ℕ
  pub kind : Kind

abbrev pub named_in : DataCall → List Named
named_in (Poll cq count) = record { line = cq; kind = kind.Cq } ∷ []
named_in (Arm cq solicited) = record { line = cq; kind = kind.Cq } ∷ []
named_in (Event channel) = record { line = channel; kind = kind.Channel } ∷ []

abbrev pub named_by : Form → List Named
named_by (Plain actor deed) = []
named_by (Minus actor deed) = []
named_by (Plus actor) = []
named_by (Die client) = []
named_by (Data client call) = named_in call

-- one of these lines has this number, and makes an object of this kind
pub record IsMade (above : List Line) (number : ℕ) (k : Kind) : Type 0 where
  pub line : Line
  pub stands : Contains above line
  pub numbered : line.number ≡ number
  pub makes : form_kind line.form ≡ Some k

-- a handle is a number, or stands for what one of these lines makes
abbrev pub RefersTo : List Line → Handle → Type 0
RefersTo above (Number n) = Unit {0}
RefersTo above (Name number) = (k : Kind) × IsMade above number k

abbrev pub IsMadeAs : List Line → Named → Type 0
IsMadeAs above named = IsMade above named.line named.kind

-- each name of some lines stands for what a line above makes, where these lines stand above all, and one of a call of the data
-- path for an object of the kind that the call is of
abbrev pub NamesStand : List Line → List Line → Type 0
NamesStand above [] = Unit {0}
NamesStand above (line ∷ lines) =
    AllByRecursion (RefersTo above) (objects_of line.form) × AllByRecursion (IsMadeAs above) (named_by line.form) × NamesStand (above ++ line ∷ []) lines

abbrev pub NamesStandForLinesAbove : Type 0
NamesStandForLinesAbove = (mode : Mode) (bytes : List ℕ) (lines : List Line) → script_of mode bytes ≡ Ok lines → NamesStand [] lines
