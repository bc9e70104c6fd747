-- What the calls of the core come to: a step of a call, an open, an enter, and the turns of a teardown.
use Rattle.std.specs.Prelude.{ℕ, Bool, true, false, ◌≡◌, ◌<◌, ◌⊎◌, ◌==◌, Option, None, Some, Result, Ok, Err, unwrap_or, if◌then◌else◌}
use Rattle.uv_num.specs.declared.errno.Errno.{Errno}
use Rattle.uv_num.specs.declared.errno.Errno.TheVariants.{BadF, Io, NoMem}
use Rattle.uv_num.specs.declared.kind.Kind.{Kind}
use Rattle.uv_num.specs.declared.limits.TheConstants.{DRIVER}
use Rattle.uv_num.specs.declared.qp.QpState.{QpState}
use Rattle.uv_num.specs.declared.request.Request.{Request}
use Rattle.uv_machine.specs.declared.call.InFlight.{InFlight}
use Rattle.uv_machine.specs.declared.entry.Answer.{Answer}
use Rattle.uv_machine.specs.declared.entry.Answer.TheVariants as answer
use Rattle.uv_machine.specs.declared.entry.CallStep.{CallStep}
use Rattle.uv_machine.specs.declared.entry.Entry.{Entry}
use Rattle.uv_machine.specs.declared.entry.Entry.TheVariants as entry
use Rattle.uv_machine.specs.declared.entry.Word.{Word}
use Rattle.uv_machine.specs.declared.entry.Word.TheVariants.{Reserve, Look, Make, Commit, Act, Lock, Check, Finish, Abort, Free, Exit}
use Rattle.uv_machine.specs.declared.file.FilePhase.{FilePhase}
use Rattle.uv_machine.specs.declared.file.FilePhase.TheVariants as file
use Rattle.uv_machine.specs.declared.object.Object.{Object}
use Rattle.uv_machine.specs.declared.state.State.{State}
use Rattle.uv_machine.specs.Objects.{is_husk}
use Rattle.uv_machine.specs.Plans.{acted_on}
use Rattle.uv_machine.specs.States.{call_of, object_with, phase_of, device_of, is_unplugged, newest_free}
use Rattle.uv_machine.specs.Steps.{next_of}
use Rattle.uv_machine.specs.Effects.{refusal_in}
use Rattle.uv_machine.specs.Outside.{MayAnswer, open_refusal, enter_refusal}
use Rattle.uv_machine.specs.Histories.{state_of}
use Rattle.uv_graph.specs.declared.told.Progress.{Progress}
use Rattle.uv_graph.specs.declared.told.Progress.TheVariants as progress
use Rattle.uv_graph.specs.declared.told.Swept.{Swept}
use Rattle.uv_graph.specs.declared.told.Swept.TheVariants as swept
use Rattle.uv_graph.specs.declared.told.Torn.{Torn}
use Rattle.uv_graph.specs.declared.told.Torn.TheVariants as torn
use Rattle.uv_graph.specs.declared.out.Out.{Out}
use Rattle.uv_graph.specs.Calls.{calls_on}
use Rattle.uv_pool.specs.Deeds.{DeedFacts}
use Rattle.uv_graph.specs.Conditions.{awaits}
use Rattle.uv_graph.specs.Hands.{HandsNew, HandsPlanted, HandsKilled}
use Rattle.uv_graph.specs.Kept.{Kept, kill_of}
use Rattle.uv_graph.specs.Notes.{Notes, NotesOut, NotesKill, NotesOrSpares, IsDry}
use Rattle.uv_graph.specs.Owns.{own_of, TearsNone}

-- A step of a call.

abbrev pub is_husk_object : Option Object → Bool
is_husk_object None = false
is_husk_object (Some x) = is_husk x.phase

-- a step that isn't refused leaves the deeds, and its call goes on
abbrev pub goes_plain : Option Object → Word → Bool
goes_plain x Reserve = true
goes_plain x Look = true
goes_plain x Make = false
goes_plain x Commit = true
goes_plain x Act = true
goes_plain x Lock = true
goes_plain x Check = is_husk_object x
goes_plain x Finish = is_husk_object x
goes_plain x Abort = true
goes_plain x Free = true
goes_plain x Exit = false

-- the step ends its call
abbrev pub is_exit : Word → Bool
is_exit Reserve = false
is_exit Look = false
is_exit Make = false
is_exit Commit = false
is_exit Act = false
is_exit Lock = false
is_exit Check = false
is_exit Finish = false
is_exit Abort = false
is_exit Free = false
is_exit Exit = true

-- the entry of a client's step
abbrev pub step_entry : ℕ → CallStep → Entry
step_entry c d = entry.Step c d.word d.object d.found d.answer

-- the step that a client's call makes next: it isn't an act whose state is told from outside
pub record IsNextOf (k : Kept) (c : ℕ) (d : CallStep) : Type 0 where
  pub call : InFlight
  pub is : call_of (state_of k.history) c ≡ Some call
  pub alone : awaits call ≡ false
  pub next : next_of (state_of k.history) c None 0 ≡ Some d

-- it was made, and the call goes on
pub record GoesBy (old new : Kept) (c : ℕ) (w : Word) : Type 0 where
  pub done : CallStep
  pub next : IsNextOf old c done
  pub word : done.word ≡ w
  pub fine : refusal_in done.answer ≡ None
  pub plain : goes_plain (object_with (state_of old.history) done.object) w ≡ true
  pub notes : Notes old new (step_entry c done)

-- it was refused, and the call goes on to its end
pub record IsRefusedBy (old new : Kept) (c : ℕ) (w : Word) (e : Errno) : Type 0 where
  pub done : CallStep
  pub next : IsNextOf old c done
  pub word : done.word ≡ w
  pub refused : refusal_in done.answer ≡ Some e
  pub goes_on : is_exit w ≡ false
  pub notes : Notes old new (step_entry c done)

-- an object was made, and its cell's deed handed out
pub record PlantsFor (old new : Kept) (c : ℕ) (t : DeedFacts) (o : ℕ) (kind : Kind) : Type 0 where
  pub done : CallStep
  pub next : IsNextOf old c done
  pub word : done.word ≡ Make
  pub object : done.object ≡ o
  pub hands : HandsNew old new (step_entry c done) c o t
  pub of_kind : hands.item.kind ≡ kind

-- a live object was taken out of use, and its deed handed out
pub record RetiresFor (old new : Kept) (c : ℕ) (t : DeedFacts) (o : ℕ) (kind : Kind) : Type 0 where
  pub done : CallStep
  pub next : IsNextOf old c done
  pub word : done.word ≡ Check
  pub object : done.object ≡ o
  pub hands : HandsPlanted old new (step_entry c done) c o t
  pub of_kind : hands.item.kind ≡ kind

-- an act is next that is about what this cell holds, and nothing was made
pub record TouchesCell (old new : Kept) (c : ℕ) (kind : Kind) (index generation : ℕ) : Type 0 where
  pub same : new ≡ old
  pub call : InFlight
  pub is : call_of (state_of old.history) c ≡ Some call
  pub awaits_it : awaits call ≡ true
  pub item : Object
  pub there : object_with (state_of old.history) (acted_on call) ≡ Some item
  pub of_kind : item.kind ≡ kind
  pub in_cell : item.index ≡ index
  pub of_life : item.generation ≡ generation

-- the call ended
pub record EndsWith (old new : Kept) (c : ℕ) (a : Answer) : Type 0 where
  pub done : CallStep
  pub next : IsNextOf old c done
  pub word : done.word ≡ Exit
  pub answer_is : done.answer ≡ a
  pub notes : Notes old new (step_entry c done)

-- what each answer of a step says; `tell` is what a deed tells
abbrev pub StepGives : {D : Type 0} → (D → DeedFacts) → Kept → Kept → ℕ → Progress D → Type 0
StepGives tell old new c (progress.Went w) = GoesBy old new c w
StepGives tell old new c (progress.Refused w e) = IsRefusedBy old new c w e
StepGives tell old new c (progress.Plant deed object kind) = PlantsFor old new c (tell deed) object kind
StepGives tell old new c (progress.Touch kind index generation) = TouchesCell old new c kind index generation
StepGives tell old new c (progress.Retire deed object kind) = RetiresFor old new c (tell deed) object kind
StepGives tell old new c (progress.Ended a) = EndsWith old new c a

-- The act after a touch.

pub record ActsBy (old new : Kept) (c : ℕ) (found : Option QpState) (a : Answer) : Type 0 where
  pub done : CallStep
  pub next : next_of (state_of old.history) c found 0 ≡ Some done
  pub answer_is : done.answer ≡ a
  pub notes : Notes old new (step_entry c done)

-- The finish after a retirement.

pub record FinishesBy (old new : Kept) (c kept : ℕ) : Type 0 where
  pub done : CallStep
  pub next : next_of (state_of old.history) c None kept ≡ Some done
  pub word : done.word ≡ Finish
  pub answer_is : done.answer ≡ answer.Kept kept
  pub notes : NotesOut old new (step_entry c done) c None

-- Opens and enters.

-- a refusal is noted, and is the machine's or that of a call out of memory; or there was no memory for it either, and nothing changed
pub record IsNotedAs (old new : Kept) (c : ℕ) (e : Entry) (refusal : Option Errno) (errno : Errno) : Type 0 where
  pub may : MayAnswer refusal (answer.Refused errno)
  pub notes : NotesOrSpares old new e c

pub record IsLost (old new : Kept) (c : ℕ) (errno : Errno) : Type 0 where
  pub dry : IsDry old new c
  pub no_memory : errno ≡ NoMem

pub record IsOpened (old new : Kept) (c f d : ℕ) : Type 0 where
  pub may : open_refusal (state_of old.history) f d ≡ None
  pub notes : Notes old new (entry.Open c f d answer.Ok)

abbrev pub OpenGives : Kept → Kept → ℕ → ℕ → ℕ → Result (Unit {0}) Errno → Type 0
OpenGives old new c f d (Ok u) = IsOpened old new c f d
OpenGives old new c f d (Err errno) =
    IsNotedAs old new c (entry.Open c f d (answer.Refused errno)) (open_refusal (state_of old.history) f d) errno ⊎ IsLost old new c errno

pub record IsEntered (old new : Kept) (c f : ℕ) (request : Request) : Type 0 where
  pub may : enter_refusal (state_of old.history) f request ≡ None
  pub notes : Notes old new (entry.Enter c f request answer.Ok)

abbrev pub EnterGives : Kept → Kept → ℕ → ℕ → Request → Result (Unit {0}) Errno → Type 0
EnterGives old new c f request (Ok u) = IsEntered old new c f request
EnterGives old new c f request (Err errno) =
    IsNotedAs old new c (entry.Enter c f request (answer.Refused errno)) (enter_refusal (state_of old.history) f request) errno ⊎ IsLost old new c errno

-- a call that has no memory is refused as the machine would refuse it, and else as out of memory
abbrev pub refusal_without : Option Errno → Errno
refusal_without refusal = unwrap_or refusal NoMem

-- Teardown.

-- a device is pulled once
pub record IsPulled (old new : Kept) (d : ℕ) : Type 0 where
  pub plugged : is_unplugged (state_of old.history) d ≡ false
  pub notes : Notes old new (entry.Unplug d)

pub record WasPulled (old new : Kept) (d : ℕ) (e : Errno) : Type 0 where
  pub unplugged : is_unplugged (state_of old.history) d ≡ true
  pub gone : e ≡ Io
  pub same : new ≡ old

abbrev pub UnplugGives : Kept → Kept → ℕ → Result (Unit {0}) Errno → Type 0
UnplugGives old new d (Ok u) = IsPulled old new d
UnplugGives old new d (Err e) = WasPulled old new d e

-- what a close of a file in this phase comes to
abbrev pub close_of : FilePhase → Torn
close_of file.Fresh = torn.Refused BadF
close_of file.Open = torn.Began
close_of (file.Tearing by) = if by == DRIVER then torn.NotYet DRIVER else torn.Refused BadF
close_of file.Dissociated = torn.Began
close_of file.Closed = torn.Refused BadF

-- what the driver's tear of a file in this phase, of the device, comes to
abbrev pub tear_in : FilePhase → Torn
tear_in file.Fresh = torn.Refused BadF
tear_in file.Open = torn.Began
tear_in (file.Tearing by) = torn.NotYet by
tear_in file.Dissociated = torn.Refused BadF
tear_in file.Closed = torn.Refused BadF

abbrev pub tear_of : State → ℕ → ℕ → Torn
tear_of m d f = if device_of m f == d then tear_in (phase_of m f) else torn.Refused BadF

-- a teardown that began is noted; else nothing changes
abbrev pub TearGives : Kept → Kept → ℕ → ℕ → Torn → Type 0
TearGives old new f by torn.Began = Notes old new (entry.Tear f by)
TearGives old new f by (torn.NotYet actor) = new ≡ old
TearGives old new f by (torn.Refused errno) = new ≡ old

pub record KillsNext (old new : Kept) (by f : ℕ) (t : DeedFacts) (o : ℕ) (kind : Kind) (handle : ℕ) : Type 0 where
  pub quiet : calls_on (state_of old.history) f ≡ 0
  pub hands : HandsKilled old new (entry.Kill o) by o t
  pub newest : newest_free (state_of old.history) f ≡ Some hands.item
  pub of_kind : hands.item.kind ≡ kind
  pub handle_is : hands.item.handle ≡ handle

-- the entry that ends a teardown
abbrev pub last_entry : ℕ → ℕ → Entry
last_entry by f = if by == DRIVER then entry.Dissociated f else entry.Closed f

pub record SweepsOut (old new : Kept) (by f : ℕ) : Type 0 where
  pub quiet : calls_on (state_of old.history) f ≡ 0
  pub nothing : newest_free (state_of old.history) f ≡ None
  pub notes : Notes old new (last_entry by f)
  pub torn : TearsNone (own_of new by)

pub record WaitsFor (old new : Kept) (f n : ℕ) : Type 0 where
  pub some : 0 < n
  pub calls : calls_on (state_of old.history) f ≡ n
  pub same : new ≡ old

abbrev pub SweepGives : {D : Type 0} → (D → DeedFacts) → Kept → Kept → ℕ → ℕ → Swept D → Type 0
SweepGives tell old new by f (swept.Kill deed object kind handle) = KillsNext old new by f (tell deed) object kind handle
SweepGives tell old new by f swept.Done = SweepsOut old new by f
SweepGives tell old new by f (swept.NotYet n) = WaitsFor old new f n

pub record ReleasesBy (old new : Kept) (by kept : ℕ) : Type 0 where
  pub out : Out
  pub was : kill_of old by ≡ Some out
  pub notes : NotesKill old new (entry.Gone out.identity.id kept) by None
