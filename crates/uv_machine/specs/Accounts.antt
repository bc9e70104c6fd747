-- The steps that a call has still to make, and the entries that a state can still cause without another Open or Enter.
-- Whoever stores a history takes the room for these at the Open and at the Enter, so that no later entry takes memory.
use Rattle.std.specs.Prelude.{ℕ, Bool, true, false, ◌+◌, ◌==◌, List, Option, None, Some, if◌then◌else◌, drop, length, sum_by}
use Rattle.std.specs.List.{list_any}
use Rattle.uv_num.specs.declared.errno.Errno.{Errno}
use Rattle.uv_num.specs.declared.limits.TheConstants.{DRIVER}
use Rattle.uv_num.specs.Ids.{ids_of}
use Rattle.uv_machine.specs.declared.entry.Word.{Word}
use Rattle.uv_machine.specs.declared.entry.Word.TheVariants.{Reserve, Look, Make, Commit, Act, Lock, Check, Finish, Abort, Free, Exit}
use Rattle.uv_machine.specs.declared.entry.Entry.{Entry}
use Rattle.uv_machine.specs.declared.entry.Entry.TheVariants.{Open, Enter, Step, Unplug, Tear, Kill, Gone, Dissociated, Closed}
use Rattle.uv_machine.specs.declared.object.Phase.{Phase}
use Rattle.uv_machine.specs.declared.object.Phase.TheVariants as phase
use Rattle.uv_machine.specs.declared.object.Object.{Object}
use Rattle.uv_machine.specs.declared.file.FilePhase.{FilePhase}
use Rattle.uv_machine.specs.declared.file.FilePhase.TheVariants as file
use Rattle.uv_machine.specs.declared.file.File.{File}
use Rattle.uv_machine.specs.declared.call.InFlight.{InFlight}
use Rattle.uv_machine.specs.declared.state.State.{State}
use Rattle.uv_machine.specs.Plans.{plan_for, entered}
use Rattle.uv_machine.specs.Effects.{refusal_in}

-- The steps that a call has ahead.

-- the words of the call's plan that are ahead of it
abbrev pub words_ahead : InFlight → List Word
words_ahead call = drop call.place (plan_for call.request)

-- a word stands for one step, and a look for a free too
abbrev pub word_steps : Word → ℕ
word_steps Reserve = 1
word_steps Look = 2
word_steps Make = 1
word_steps Commit = 1
word_steps Act = 1
word_steps Lock = 1
word_steps Check = 1
word_steps Finish = 1
word_steps Abort = 1
word_steps Free = 1
word_steps Exit = 1

abbrev pub is_make : Word → Bool
is_make Reserve = false
is_make Look = false
is_make Make = true
is_make Commit = false
is_make Act = false
is_make Lock = false
is_make Check = false
is_make Finish = false
is_make Abort = false
is_make Free = false
is_make Exit = false

-- a number that is set aside, or an object that is held exclusively: an abort, for the first
abbrev pub count_of : Option ℕ → ℕ
count_of None = 0
count_of (Some number) = 1

-- a free for what is looked at, and the exit
abbrev pub free_steps : InFlight → ℕ
free_steps call = length (ids_of call.looked) + 1

-- the steps after a refusal
abbrev pub steps_back : InFlight → ℕ
steps_back call = count_of call.reserved + free_steps call

-- the steps of the plan and its end, where a Make is ahead or not: a number that is set aside is the new object's
abbrev pub steps_on : Bool → InFlight → ℕ
steps_on true call = sum_by word_steps (words_ahead call) + free_steps call
steps_on false call = sum_by word_steps (words_ahead call) + steps_back call

-- a Make is ahead
abbrev pub makes_ahead : InFlight → Bool
makes_ahead call = list_any is_make (words_ahead call)

abbrev pub steps_behind : InFlight → Option Errno → ℕ
steps_behind call None = steps_on (makes_ahead call) call
steps_behind call (Some e) = steps_back call

-- the most steps that an actor's call has still to make
abbrev pub steps_ahead : Option InFlight → ℕ
steps_ahead None = 0
steps_ahead (Some call) = steps_behind call call.refusal

-- What a state owes.

-- a new object can cause a Kill and a Gone
abbrev pub new_object_owes : Bool → ℕ
new_object_owes true = 2
new_object_owes false = 0

abbrev pub making_owes : InFlight → Option Errno → ℕ
making_owes call None = new_object_owes (makes_ahead call)
making_owes call (Some e) = 0

abbrev pub call_owes : Option InFlight → ℕ
call_owes None = 0
call_owes (Some call) = steps_behind call call.refusal + making_owes call call.refusal

abbrev pub phase_owes : Phase → ℕ
phase_owes phase.Made = 2
phase_owes phase.Live = 2
phase_owes phase.Doomed = 1
phase_owes phase.Husk = 0

abbrev pub object_owes : Object → ℕ
object_owes x = phase_owes x.phase

-- a file that stands open can cause a Tear and a Dissociated of the driver, and a Tear and a Closed
abbrev pub file_phase_owes : FilePhase → ℕ
file_phase_owes file.Fresh = 0
file_phase_owes file.Open = 4
file_phase_owes (file.Tearing by) = if by == DRIVER then 3 else 1
file_phase_owes file.Dissociated = 2
file_phase_owes file.Closed = 0

abbrev pub file_owes : File → ℕ
file_owes x = file_phase_owes x.phase

-- 1 where it is so: as a device that is plugged in, which can be pulled
abbrev pub one_if : Bool → ℕ
one_if true = 1
one_if false = 0

-- the entries that can still come without another Open or Enter
abbrev pub owed : State → ℕ
owed m = sum_by one_if m.plugged + sum_by file_owes m.files + sum_by object_owes m.objects + sum_by call_owes m.calls

-- what an entry takes: itself, and what it makes the state owe
abbrev pub unless_refused_costs : Option Errno → ℕ → ℕ
unless_refused_costs None fine = 1 + fine
unless_refused_costs (Some e) fine = 1

abbrev pub costs : Entry → ℕ
costs (Open c f d a) = unless_refused_costs (refusal_in a) 4
costs (Enter c f request a) = unless_refused_costs (refusal_in a) (call_owes (Some (entered f request)))
costs (Step c w o found a) = 0
costs (Unplug d) = 0
costs (Tear f by) = 0
costs (Kill o) = 0
costs (Gone o kept) = 0
costs (Dissociated f) = 0
costs (Closed f) = 0

-- The Makes to come.

abbrev pub making_comes : InFlight → Option Errno → ℕ
making_comes call None = one_if (makes_ahead call)
making_comes call (Some e) = 0

abbrev pub call_makes : Option InFlight → ℕ
call_makes None = 0
call_makes (Some call) = making_comes call call.refusal

-- the Makes that can still come without another Enter
abbrev pub coming : State → ℕ
coming m = sum_by call_makes m.calls

-- what an entry makes the state have to come
abbrev pub unless_refused_makes : Option Errno → ℕ → ℕ
unless_refused_makes None fine = fine
unless_refused_makes (Some e) fine = 0

abbrev pub brings : Entry → ℕ
brings (Open c f d a) = 0
brings (Enter c f request a) = unless_refused_makes (refusal_in a) (call_makes (Some (entered f request)))
brings (Step c w o found a) = 0
brings (Unplug d) = 0
brings (Tear f by) = 0
brings (Kill o) = 0
brings (Gone o kept) = 0
brings (Dissociated f) = 0
brings (Closed f) = 0
