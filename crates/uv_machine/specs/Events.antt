-- Events of files, and what a removal leaves: laws of what a client still meets after its device was pulled.
use Rattle.std.specs.Prelude.{ℕ, Bool, true, false, ◌≡◌, ◌&&◌, ◌==◌, ◌+◌, List, [], ◌∷◌, None, count_by}
use Rattle.std.specs.List.{list_any}
use Rattle.uv_num.specs.declared.limits.TheConstants.{NONE}
use Rattle.uv_num.specs.declared.request.Request.{Request}
use Rattle.uv_num.specs.declared.request.Role.TheVariants.{Destroys}
use Rattle.uv_num.specs.Request.{role_of}
use Rattle.uv_machine.specs.declared.entry.Answer.{Answer}
use Rattle.uv_machine.specs.declared.entry.Answer.TheVariants as answer
use Rattle.uv_machine.specs.declared.entry.Entry.{Entry}
use Rattle.uv_machine.specs.declared.entry.Entry.TheVariants.{Open, Enter, Step, Unplug, Tear, Kill, Gone, Dissociated, Closed}
use Rattle.uv_machine.specs.declared.entry.Word.{Word}
use Rattle.uv_machine.specs.declared.entry.Word.TheVariants as word
use Rattle.uv_machine.specs.declared.object.Object.{Object}
use Rattle.uv_machine.specs.declared.state.State.{State}
use Rattle.uv_machine.specs.Objects.{is_husk}
use Rattle.uv_machine.specs.Plans.{holds, is_call_on}
use Rattle.uv_machine.specs.States.{call_of, phase_of, has_event, is_callable, start}
use Rattle.uv_machine.specs.Histories.{IsActor, after, state_of, IsLegal, IsLegalFrom}
use Rattle.uv_machine.specs.Accounts.{one_if}
use Rattle.uv_machine.specs.Reached.{IsIn}

-- One event for each dissociation, and none else.

abbrev pub is_event : Answer → Bool
is_event answer.Ok = false
is_event (answer.Made handle index generation) = false
is_event (answer.State state index) = false
is_event answer.Event = true
is_event (answer.Kept kept) = false
is_event (answer.Refused e) = false

abbrev pub is_act_word : Word → Bool
is_act_word word.Reserve = false
is_act_word word.Look = false
is_act_word word.Make = false
is_act_word word.Commit = false
is_act_word word.Act = true
is_act_word word.Lock = false
is_act_word word.Check = false
is_act_word word.Finish = false
is_act_word word.Abort = false
is_act_word word.Free = false
is_act_word word.Exit = false

-- the entry takes an event of the file
abbrev pub takes_event : State → ℕ → Entry → Bool
takes_event m f (Open c g d a) = false
takes_event m f (Enter c g request a) = false
takes_event m f (Step c w o found a) = is_act_word w && (is_event a && is_call_on f (call_of m c))
takes_event m f (Unplug d) = false
takes_event m f (Tear g by) = false
takes_event m f (Kill o) = false
takes_event m f (Gone o kept) = false
takes_event m f (Dissociated g) = false
takes_event m f (Closed g) = false

abbrev pub taken_from : State → ℕ → List Entry → ℕ
taken_from m f [] = 0
taken_from m f (e ∷ es) = one_if (takes_event m f e) + taken_from (after m e) f es

-- how many events of the file a history takes
abbrev pub taken_in : List Entry → ℕ → ℕ
taken_in h f = taken_from start f h

-- the driver is through with the file
abbrev pub dissociates : ℕ → Entry → Bool
dissociates f (Open c g d a) = false
dissociates f (Enter c g request a) = false
dissociates f (Step c w o found a) = false
dissociates f (Unplug d) = false
dissociates f (Tear g by) = false
dissociates f (Kill o) = false
dissociates f (Gone o kept) = false
dissociates f (Dissociated g) = g == f
dissociates f (Closed g) = false

-- the events that were taken and the one that wasn't are as many as the dissociations
abbrev pub EventsCount : Type 0
EventsCount = (h : List Entry) (f : ℕ) → IsLegal h → taken_in h f + one_if (has_event (state_of h) f) ≡ count_by (dissociates f) h

-- What a removal left can be destroyed: a husk that no call holds, by any actor without a call, with or without the device.

-- a whole destroy of the object, in which nothing is kept
abbrev pub destroy_of : ℕ → Object → Request → List Entry
destroy_of c x request =
    Enter c x.file request answer.Ok
    ∷ Step c word.Lock x.id None answer.Ok
    ∷ Step c word.Check x.id None answer.Ok
    ∷ Step c word.Finish x.id None (answer.Kept 0)
    ∷ Step c word.Exit NONE None answer.Ok
    ∷ []

-- the request destroys what has this kind and handle
abbrev pub IsDestroyOf : Request → Object → Type 0
IsDestroyOf request x = role_of request ≡ Destroys (record { kind = x.kind; handle = x.handle })

abbrev pub HusksCanGo : Type 0
HusksCanGo =
    (h : List Entry) (c : ℕ) (x : Object) (request : Request) → IsLegal h → IsActor c → call_of (state_of h) c ≡ None → IsIn x (state_of h).objects
    → is_husk x.phase ≡ true → is_callable (phase_of (state_of h) x.file) ≡ true → list_any (holds x.id) (state_of h).calls ≡ false → IsDestroyOf request x
    → IsLegalFrom (state_of h) (destroy_of c x request)
