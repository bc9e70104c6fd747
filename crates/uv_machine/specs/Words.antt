-- The words that a call has still to make, those that an actor made, and what a destroy's own steps say of its answer.
use Rattle.std.specs.Prelude.{ℕ, Bool, true, false, ◌≡◌, ◌+◌, ◌==◌, ◌++◌, ◌⊎◌, List, [], ◌∷◌, Option, None, Some, replicate, length, count_by, if◌then◌else◌}
use Rattle.std.specs.List.{list_any}
use Rattle.std.specs.Option.{is_some}
use Rattle.uv_num.specs.declared.errno.Errno.{Errno}
use Rattle.uv_num.specs.declared.errno.Errno.TheVariants.{NoEnt, Busy, Inval}
use Rattle.uv_num.specs.declared.limits.TheConstants.{DRIVER}
use Rattle.uv_num.specs.declared.qp.QpState.{QpState}
use Rattle.uv_num.specs.declared.request.Ask.{Ask}
use Rattle.uv_num.specs.declared.request.Role.TheVariants.{Destroys}
use Rattle.uv_num.specs.Ids.{ids_of}
use Rattle.uv_num.specs.Request.{role_of}
use Rattle.uv_machine.specs.declared.entry.Answer.{Answer}
use Rattle.uv_machine.specs.declared.entry.Answer.TheVariants as answer
use Rattle.uv_machine.specs.declared.entry.CallStep.{CallStep}
use Rattle.uv_machine.specs.declared.entry.Entry.{Entry}
use Rattle.uv_machine.specs.declared.entry.Entry.TheVariants.{Open, Enter, Step, Unplug, Tear, Kill, Gone, Dissociated, Closed}
use Rattle.uv_machine.specs.declared.entry.Word.{Word}
use Rattle.uv_machine.specs.declared.entry.Word.TheVariants.{Reserve, Look, Make, Commit, Act, Lock, Check, Finish, Abort, Free, Exit}
use Rattle.uv_machine.specs.declared.call.InFlight.{InFlight}
use Rattle.uv_machine.specs.declared.state.State.{State}
use Rattle.uv_machine.specs.Accounts.{words_ahead, steps_ahead}
use Rattle.uv_machine.specs.Calls.{calls_of}
use Rattle.uv_machine.specs.Effects.{refusal_in}
use Rattle.uv_machine.specs.Histories.{Allowed, after, IsLegal, state_of}
use Rattle.uv_machine.specs.Plans.{is_the_number}
use Rattle.uv_machine.specs.States.{call_of}

-- The words to come.

abbrev pub is_look : Word → Bool
is_look Reserve = false
is_look Look = true
is_look Make = false
is_look Commit = false
is_look Act = false
is_look Lock = false
is_look Check = false
is_look Finish = false
is_look Abort = false
is_look Free = false
is_look Exit = false

-- an abort where a number is set aside
abbrev pub abort_words : Option ℕ → List Word
abort_words None = []
abort_words (Some number) = Abort ∷ []

-- a free for each of so many objects, and the exit
abbrev pub free_words : ℕ → List Word
free_words looks = replicate looks Free ++ Exit ∷ []

-- after a refusal: the number that is set aside goes back, what is looked at is freed, and the call ends
abbrev pub words_back : InFlight → List Word
words_back call = abort_words call.reserved ++ free_words (length (ids_of call.looked))

-- without one: what is left of the plan, then a free for each look, the looks to come among them, and the exit
abbrev pub words_on : InFlight → List Word
words_on call = words_ahead call ++ free_words (length (ids_of call.looked) + count_by is_look (words_ahead call))

abbrev pub words_by : InFlight → Option Errno → List Word
words_by call None = words_on call
words_by call (Some e) = words_back call

-- the words that an actor's call makes from now on, if no step is refused
abbrev pub words_to_come : Option InFlight → List Word
words_to_come None = []
words_to_come (Some call) = words_by call call.refusal

-- a step is refused; an exit tells the call's answer, and is no refusal of a step
abbrev pub is_refused : Word → Answer → Bool
is_refused Reserve a = is_some (refusal_in a)
is_refused Look a = is_some (refusal_in a)
is_refused Make a = is_some (refusal_in a)
is_refused Commit a = is_some (refusal_in a)
is_refused Act a = is_some (refusal_in a)
is_refused Lock a = is_some (refusal_in a)
is_refused Check a = is_some (refusal_in a)
is_refused Finish a = is_some (refusal_in a)
is_refused Abort a = is_some (refusal_in a)
is_refused Free a = is_some (refusal_in a)
is_refused Exit a = false

-- The words of an actor's steps.

abbrev pub word_by : ℕ → Entry → List Word
word_by c (Open b f d a) = []
word_by c (Enter b f request a) = []
word_by c (Step b w o found a) = if b == c then w ∷ [] else []
word_by c (Unplug d) = []
word_by c (Tear f by) = []
word_by c (Kill o) = []
word_by c (Gone o kept) = []
word_by c (Dissociated f) = []
word_by c (Closed f) = []

abbrev pub words_in : ℕ → List Entry → List Word
words_in c [] = []
words_in c (e ∷ es) = word_by c e ++ words_in c es

-- the actor's call enters
abbrev pub enters : ℕ → Entry → Bool
enters c (Open b f d a) = false
enters c (Enter b f request a) = b == c
enters c (Step b w o found a) = false
enters c (Unplug d) = false
enters c (Tear f by) = false
enters c (Kill o) = false
enters c (Gone o kept) = false
enters c (Dissociated f) = false
enters c (Closed f) = false

-- Laws of the words: a step makes the first of those to come and leaves the others, unless it is refused; and as many words
-- are to come as steps.

pub record MakesNextWord (call : InFlight) (slot : Option InFlight) (w : Word) (a : Answer) : Type 0 where
  pub rest : List Word
  pub now : words_by call call.refusal ≡ w ∷ rest
  pub later : words_to_come slot ≡ (if is_refused w a then words_back call else rest)

abbrev pub WordsGoOn : Type 0
WordsGoOn =
    (h : List Entry) (c : ℕ) (w : Word) (o : ℕ) (found : Option QpState) (a : Answer) (call : InFlight) → IsLegal h → call_of (state_of h) c ≡ Some call
    → Allowed (state_of h) (Step c w o found a) → MakesNextWord call (call_of (state_of (h ++ Step c w o found a ∷ [])) c) w a

abbrev pub WordsAreSteps : Type 0
WordsAreSteps =
    (h : List Entry) (c : ℕ) → IsLegal h → steps_ahead (call_of (state_of h) c) ≡ length (words_to_come (call_of (state_of h) c))

-- A refused step is followed by exactly these: an abort where a number is set aside, a free for each look, and the exit.

abbrev pub RefusedEnds : Type 0
RefusedEnds =
    (h es : List Entry) (c : ℕ) (call : InFlight) (e : Errno) → IsLegal (h ++ es) → call_of (state_of h) c ≡ Some call → call.refusal ≡ Some e
    → list_any (enters c) es ≡ false → words_in c es ++ words_to_come (call_of (state_of (h ++ es)) c) ≡ words_back call

-- A step of a call leaves its file and its request.

abbrev pub StepKeepsRequest : Type 0
StepKeepsRequest =
    (m : State) (c : ℕ) (w : Word) (o : ℕ) (found : Option QpState) (a : Answer) (call left : InFlight) → Allowed m (Step c w o found a)
    → call_of m c ≡ Some call → call_of (after m (Step c w o found a)) c ≡ Some left → (left.file ≡ call.file) × (left.request ≡ call.request)

-- The steps of an actor's last call, from its Enter on.

abbrev pub steps_with : ℕ → List CallStep → Entry → List CallStep
steps_with c steps (Open b f d a) = steps
steps_with c steps (Enter b f request a) = if b == c then [] else steps
steps_with c steps (Step b w o found a) = if b == c then steps ++ record { word = w; object = o; found = found; answer = a } ∷ [] else steps
steps_with c steps (Unplug d) = steps
steps_with c steps (Tear f by) = steps
steps_with c steps (Kill o) = steps
steps_with c steps (Gone o kept) = steps
steps_with c steps (Dissociated f) = steps
steps_with c steps (Closed f) = steps

abbrev pub steps_from : ℕ → List CallStep → List Entry → List CallStep
steps_from c steps [] = steps
steps_from c steps (e ∷ es) = steps_from c (steps_with c steps e) es

abbrev pub steps_of_call : List Entry → ℕ → List CallStep
steps_of_call h c = steps_from c [] h

-- a step that carries no state
abbrev pub step_done : Word → ℕ → Answer → CallStep
step_done w o a = record { word = w; object = o; found = None; answer = a }

-- How a destroy ends, read off its own steps: it was refused by its Lock, with ENOENT, EINVAL or EBUSY; or by its Check, with
-- EBUSY; or else it made its Finish, and then its answer is Ok. It locks, checks and finishes one object.

abbrev pub is_lock_errno : Errno → Type 0
is_lock_errno e = (e ≡ NoEnt) ⊎ ((e ≡ Inval) ⊎ (e ≡ Busy))

pub data DestroyEnd (steps : List CallStep) (a : Answer) : Type 0 where
  AtLock : (o : ℕ) (e : Errno) → is_lock_errno e → steps ≡ step_done Lock o (answer.Refused e) ∷ [] → a ≡ answer.Refused e → DestroyEnd steps a
  AtCheck : (o : ℕ) → steps ≡ step_done Lock o answer.Ok ∷ step_done Check o (answer.Refused Busy) ∷ [] → a ≡ answer.Refused Busy → DestroyEnd steps a
  AtFinish : (o kept : ℕ) → steps ≡ step_done Lock o answer.Ok ∷ step_done Check o answer.Ok ∷ step_done Finish o (answer.Kept kept) ∷ [] → a ≡ answer.Ok → DestroyEnd steps a

abbrev pub DestroyEnds : Type 0
DestroyEnds =
    (h : List Entry) (c o : ℕ) (found : Option QpState) (a : Answer) (call : InFlight) (asked : Ask) → IsLegal h → call_of (state_of h) c ≡ Some call
    → role_of call.request ≡ Destroys asked → Allowed (state_of h) (Step c Exit o found a) → DestroyEnd (steps_of_call h c) a

-- Entries that don't name an actor leave its calls.

-- whom an entry names: it is made by nobody else
abbrev pub names : Entry → Option ℕ
names (Open c f d a) = Some c
names (Enter c f request a) = Some c
names (Step c w o found a) = Some c
names (Unplug d) = Some DRIVER
names (Tear f by) = Some by
names (Kill o) = None
names (Gone o kept) = None
names (Dissociated f) = None
names (Closed f) = None

abbrev pub names_actor : ℕ → Entry → Bool
names_actor c e = is_the_number c (names e)

abbrev pub CallSilent : Type 0
CallSilent =
    (h es : List Entry) (c : ℕ) → list_any (names_actor c) es ≡ false
    → (calls_of (h ++ es) c ≡ calls_of h c) × (call_of (state_of (h ++ es)) c ≡ call_of (state_of h) c)
