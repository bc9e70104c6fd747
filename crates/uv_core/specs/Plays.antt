-- Lists of calls on a core, each within its condition, and what they leave.
use Rattle.std.specs.Prelude.{ℕ, Bool, false, ◌≡◌, ◌≢◌, ◌≤◌, ◌<◌, ◌++◌, ◌+◌, ◌==◌, List, [], ◌∷◌, Option, Some, Result, length, count_by}
use Rattle.std.specs.List.{list_any}
use Rattle.uv_num.specs.declared.errno.Errno.{Errno}
use Rattle.uv_num.specs.declared.limits.TheConstants.{DEVICES, DRIVER, FILES}
use Rattle.uv_num.specs.declared.qp.QpState.{QpState}
use Rattle.uv_num.specs.declared.request.Request.{Request}
use Rattle.uv_num.specs.Each.{Each}
use Rattle.uv_pool.specs.Deeds.{DeedFacts}
use Rattle.uv_machine.specs.declared.entry.Answer.{Answer}
use Rattle.uv_machine.specs.declared.entry.Answer.TheVariants as answer
use Rattle.uv_machine.specs.declared.entry.Entry.{Entry}
use Rattle.uv_machine.specs.declared.entry.Entry.TheVariants as entry
use Rattle.uv_machine.specs.Histories.{IsActor, IsLegal, state_of, state_from}
use Rattle.uv_machine.specs.Outside.{enter_refusal}
use Rattle.uv_machine.specs.States.{phase_of}
use Rattle.uv_graph.specs.declared.told.Progress.{Progress}
use Rattle.uv_graph.specs.declared.told.Swept.{Swept}
use Rattle.uv_graph.specs.declared.told.Torn.{Torn}
use Rattle.uv_graph.specs.Conditions.{ComesPlanted, HasSpare, IsClient, IsFinishing, IsFree, IsReady, IsReleasing, IsSweeper, IsTouching, Pulls}
use Rattle.uv_graph.specs.Kept.{Kept, spare_of}
use Rattle.uv_graph.specs.Notes.{HasNoOut, NotesSpared}
use Rattle.uv_graph.specs.Owns.{names, own_of, TearsNone}
use Rattle.uv_graph.specs.Turns.{ActsBy, EnterGives, FinishesBy, OpenGives, ReleasesBy, StepGives, SweepGives, TearGives, UnplugGives, close_of, refusal_without, tear_of}
use Rattle.uv_core.specs.Beside.{Adds, OthersKeep, SeatNames}
use Rattle.uv_core.specs.Roles.{is_any}

-- a call with its arguments and its answer; a deed is seen as what it tells
pub data Call : Type 0 where
  Opens : (client file device : ℕ) (said : Result (Unit {0}) Errno) → Call
  Enters : (client file : ℕ) (request : Request) (said : Result (Unit {0}) Errno) → Call
  Refuses : (client file : ℕ) (request : Request) (said : Errno) → Call
  Steps : (client : ℕ) (said : Progress DeedFacts) → Call
  Plants : (client : ℕ) (deed : DeedFacts) → Call
  Acts : (client : ℕ) (found : Option QpState) (said : Answer) → Call
  Finishes : (client : ℕ) (deed : DeedFacts) (kept : ℕ) → Call
  Unplugs : (device : ℕ) (said : Result (Unit {0}) Errno) → Call
  Closes : (tearer file : ℕ) (said : Torn) → Call
  Tears : (device file : ℕ) (said : Torn) → Call
  Sweeps : (tearer file : ℕ) (said : Swept DeedFacts) → Call
  Releases : (tearer file : ℕ) (deed : DeedFacts) (kept : ℕ) → Call

-- who makes it
abbrev pub caller : Call → ℕ
caller (Opens client file device said) = client
caller (Enters client file request said) = client
caller (Refuses client file request said) = client
caller (Steps client said) = client
caller (Plants client deed) = client
caller (Acts client found said) = client
caller (Finishes client deed kept) = client
caller (Unplugs device said) = DRIVER
caller (Closes tearer file said) = tearer
caller (Tears device file said) = DRIVER
caller (Sweeps tearer file said) = tearer
caller (Releases tearer file deed kept) = tearer

-- what it asks
abbrev pub MayCall : Kept → Call → Type 0
MayCall k (Opens client file device said) = IsClient client × (file < FILES) × (device < DEVICES)
MayCall k (Enters client file request said) = IsClient client × (file < FILES) × IsFree (own_of k client)
MayCall k (Refuses client file request said) = IsClient client × (file < FILES) × IsFree (own_of k client) × HasSpare (own_of k client)
MayCall k (Steps client said) = IsReady is_any (own_of k client)
MayCall k (Plants client deed) = ComesPlanted (own_of k client) deed
MayCall k (Acts client found said) = IsTouching (own_of k client) found
MayCall k (Finishes client deed kept) = IsFinishing (own_of k client) deed
MayCall k (Unplugs device said) = device < DEVICES
MayCall k (Closes tearer file said) = IsActor tearer × (tearer ≢ DRIVER) × (file < FILES) × TearsNone (own_of k tearer)
MayCall k (Tears device file said) = (device < DEVICES) × (file < FILES) × Pulls (own_of k DRIVER) device × TearsNone (own_of k DRIVER)
MayCall k (Sweeps tearer file said) = IsSweeper (own_of k tearer) file
MayCall k (Releases tearer file deed kept) = IsReleasing (own_of k tearer) file deed

-- what it comes to
abbrev pub CallGives : Kept → Kept → Call → Type 0
CallGives old new (Opens client file device said) = OpenGives old new client file device said
CallGives old new (Enters client file request said) = EnterGives old new client file request said
CallGives old new (Refuses client file request said) =
    (said ≡ refusal_without (enter_refusal (state_of old.history) file request)) × NotesSpared old new (entry.Enter client file request (answer.Refused said)) client
CallGives old new (Steps client said) = StepGives (λ t. t) old new client said
CallGives old new (Plants client deed) = HasNoOut old new client
CallGives old new (Acts client found said) = ActsBy old new client found said
CallGives old new (Finishes client deed kept) = FinishesBy old new client kept
CallGives old new (Unplugs device said) = UnplugGives old new device said
CallGives old new (Closes tearer file said) = (said ≡ close_of (phase_of (state_of old.history) file)) × TearGives old new file tearer said
CallGives old new (Tears device file said) = (said ≡ tear_of (state_of old.history) device file) × TearGives old new file DRIVER said
CallGives old new (Sweeps tearer file said) = SweepGives (λ t. t) old new tearer file said
CallGives old new (Releases tearer file deed kept) = ReleasesBy old new tearer kept

-- a call within its condition, with all that it promises
pub record IsCalled (old new : Kept) (call : Call) : Type 0 where
  pub may : MayCall old call
  pub gives : CallGives old new call
  pub made : Adds old new
  pub seat : SeatNames (caller call) old new
  pub others : OthersKeep (caller call) old new
  pub legal : IsLegal new.history

-- a call may take one of the refused entries that are set aside for a client: its opens and enters, and its refusals
abbrev pub takes_spare : ℕ → Call → Bool
takes_spare b (Opens client file device said) = client == b
takes_spare b (Enters client file request said) = client == b
takes_spare b (Refuses client file request said) = client == b
takes_spare b (Steps client said) = false
takes_spare b (Plants client deed) = false
takes_spare b (Acts client found said) = false
takes_spare b (Finishes client deed kept) = false
takes_spare b (Unplugs device said) = false
takes_spare b (Closes tearer file said) = false
takes_spare b (Tears device file said) = false
takes_spare b (Sweeps tearer file said) = false
takes_spare b (Releases tearer file deed kept) = false

-- these calls, one after the other, in any order of the actors
abbrev pub AreCalled : Kept → List Call → Kept → Type 0
AreCalled first [] last = last ≡ first
AreCalled first (call ∷ calls) last = (mid : Kept) × (IsCalled first mid call × AreCalled mid calls last)

abbrev pub is_by : ℕ → Call → Bool
is_by b call = caller call == b

-- a legal history goes on, by one entry a call at most, and the state is its replay; an entry names a caller or nobody, and
-- who makes none of the calls keeps its own part; what is set aside for a client gets less by its opens, enters and refusals alone
pub record GoesOn (first last : Kept) (calls : List Call) : Type 0 where
  pub legal : IsLegal last.history
  pub made : List Entry
  pub few : length made ≤ length calls
  pub more : last.history ≡ first.history ++ made
  pub replay : state_of last.history ≡ state_from (state_of first.history) made
  pub named : (b : ℕ) → list_any (is_by b) calls ≡ false → Each (λ (e : Entry). names e ≢ Some b) made
  pub beside : (b : ℕ) → list_any (is_by b) calls ≡ false → own_of last b ≡ own_of first b
  pub spare : (b : ℕ) → spare_of first b ≤ spare_of last b + count_by (takes_spare b) calls

abbrev pub CoreGoesOn : Type 0
CoreGoesOn = (first last : Kept) (calls : List Call) → IsLegal first.history → AreCalled first calls last → GoesOn first last calls
