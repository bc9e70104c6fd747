-- Histories: which entry may come next, the state after it, and what that makes of whole lists of entries.
use Rattle.std.specs.Prelude.{ℕ, false, ◌≡◌, ◌≤◌, ◌<◌, List, [], ◌∷◌, None, Some, IsTrue, length, take, slice_get, IfSome}
use Rattle.uv_num.specs.declared.limits.TheConstants.{ACTORS, FILES, DEVICES}
use Rattle.uv_machine.specs.declared.entry.Entry.{Entry}
use Rattle.uv_machine.specs.declared.entry.Entry.TheVariants.{Open, Enter, Step, Unplug, Tear, Kill, Gone, Dissociated, Closed}
use Rattle.uv_machine.specs.declared.entry.Answer.{Answer}
use Rattle.uv_machine.specs.declared.entry.Answer.TheVariants as answer
use Rattle.uv_machine.specs.declared.entry.CallStep.{CallStep}
use Rattle.uv_machine.specs.declared.file.FilePhase.TheVariants as file
use Rattle.uv_machine.specs.declared.state.State.{State}
use Rattle.uv_machine.specs.Plans.{entered}
use Rattle.uv_machine.specs.States.{call_of, object_with, is_unplugged, start}
use Rattle.uv_machine.specs.Steps.{next_of}
use Rattle.uv_machine.specs.Effects.{after_open, after_enter, after_step, after_unplug, after_closed, with_file, in_phase, dissociated, with_object, gone_from}
use Rattle.uv_machine.specs.Outside.{MayAnswer, open_refusal, enter_refusal, may_tear, may_kill, may_go, may_dissociate, may_close}
use Rattle.uv_machine.specs.declared.object.Change.TheVariants.{ToDoomed}

abbrev pub IsActor : ℕ → Type 0
IsActor c = (1 ≤ c) × (c ≤ ACTORS)

-- what an answer says was kept
abbrev pub kept_in : Answer → ℕ
kept_in answer.Ok = 0
kept_in (answer.Made handle index generation) = 0
kept_in (answer.State state index) = 0
kept_in answer.Event = 0
kept_in (answer.Kept kept) = kept
kept_in (answer.Refused e) = 0

-- the step of an actor's call is this one, with the state that it found and what it kept
abbrev pub IsNext : State → ℕ → CallStep → Type 0
IsNext m c d = next_of m c d.found (kept_in d.answer) ≡ Some d

-- the machine allows this entry now
abbrev pub Allowed : State → Entry → Type 0
Allowed m (Open c f d a) = IsActor c × (f < FILES) × (d < DEVICES) × MayAnswer (open_refusal m f d) a
Allowed m (Enter c f request a) = IsActor c × (f < FILES) × (call_of m c ≡ None) × MayAnswer (enter_refusal m f request) a
Allowed m (Step c w o found a) = IsActor c × IsNext m c (record { word = w; object = o; found = found; answer = a })
Allowed m (Unplug d) = (d < DEVICES) × (is_unplugged m d ≡ false)
Allowed m (Tear f by) = IsActor by × (f < FILES) × IsTrue (may_tear m f by)
Allowed m (Kill o) = IsTrue (may_kill m o)
Allowed m (Gone o kept) = IsTrue (may_go m o)
Allowed m (Dissociated f) = (f < FILES) × IsTrue (may_dissociate m f)
Allowed m (Closed f) = (f < FILES) × IsTrue (may_close m f)

-- the state after an entry
abbrev pub after : State → Entry → State
after m (Open c f d a) = after_open m c f d a
after m (Enter c f request a) = after_enter m c f (entered f request) a
after m (Step c w o found a) = after_step m c (call_of m c) w o a
after m (Unplug d) = after_unplug m d
after m (Tear f by) = with_file m f (in_phase (file.Tearing by))
after m (Kill o) = with_object m o ToDoomed
after m (Gone o kept) = gone_from m o (object_with m o)
after m (Dissociated f) = with_file m f dissociated
after m (Closed f) = after_closed m f

-- the state after a list of entries
abbrev pub state_from : State → List Entry → State
state_from m [] = m
state_from m (e ∷ es) = state_from (after m e) es

-- each entry is allowed where it stands
abbrev pub IsLegalFrom : State → List Entry → Type 0
IsLegalFrom m [] = Unit {0}
IsLegalFrom m (e ∷ es) = Allowed m e × IsLegalFrom (after m e) es

-- the state after a history
abbrev pub state_of : List Entry → State
state_of h = state_from start h

-- a history that the machine allows
abbrev pub IsLegal : List Entry → Type 0
IsLegal h = IsLegalFrom start h

-- the first place of a history at which it is no longer legal
pub record IsFirstBad (h : List Entry) (place : ℕ) : Type 0 where
  pub within : place < length h
  pub before : IsLegal (take place h)
  pub bad : IfSome (slice_get h place) (λ e. ¬ Allowed (state_of (take place h)) e)
