-- Laws of the machine: what whoever keeps a history can rely on.
use Rattle.std.specs.Prelude.{ℕ, Bool, true, false, ◌≡◌, ◌≢◌, ◌≤◌, ◌<◌, ◌+◌, ◌*◌, ◌==◌, ◌++◌, List, [], ◌∷◌, Option, None, Some, IsSome, is_none, length, count_by, map, ◌⊎◌, if◌then◌else◌}
use Rattle.std.specs.List.{list_any}
use Rattle.uv_num.specs.declared.limits.TheConstants.{MOST_OBJECTS, NONE, DRIVER}
use Rattle.uv_num.specs.declared.errno.Errno.TheVariants.{NoEnt, Busy, Inval}
use Rattle.uv_num.specs.declared.kind.Kind.{Kind}
use Rattle.uv_num.specs.declared.qp.QpState.{QpState}
use Rattle.uv_num.specs.declared.request.Ask.{Ask}
use Rattle.uv_num.specs.declared.request.Request.{Request}
use Rattle.uv_num.specs.declared.request.Role.TheVariants.{Creates, Destroys}
use Rattle.uv_num.specs.Request.{role_of}
use Rattle.uv_num.specs.Looks.{looks_of}
use Rattle.uv_machine.specs.declared.entry.Word.{Word}
use Rattle.uv_machine.specs.declared.entry.Word.TheVariants.{Reserve, Look, Make, Commit, Act, Lock, Check, Finish, Abort, Free, Exit}
use Rattle.uv_machine.specs.declared.entry.Answer.{Answer}
use Rattle.uv_machine.specs.declared.entry.Answer.TheVariants as answer
use Rattle.uv_machine.specs.declared.entry.Entry.{Entry}
use Rattle.uv_machine.specs.declared.entry.Entry.TheVariants.{Open, Enter, Step, Unplug, Tear, Kill, Gone, Dissociated, Closed}
use Rattle.uv_machine.specs.declared.object.Object.{Object}
use Rattle.uv_machine.specs.declared.file.FilePhase.TheVariants as file
use Rattle.uv_machine.specs.declared.call.InFlight.{InFlight}
use Rattle.uv_machine.specs.declared.state.State.{State}
use Rattle.uv_machine.specs.declared.object.Change.TheVariants.{ToDoomed}
use Rattle.uv_machine.specs.Objects.{is_live_in, is_standing_in, with_change}
use Rattle.uv_machine.specs.Plans.{entered}
use Rattle.uv_machine.specs.States.{call_of, object_with, home_cell, phase_of, has_users, has_doomed, newest_free, is_quiet}
use Rattle.uv_machine.specs.Effects.{refusal_in}
use Rattle.uv_machine.specs.Outside.{may_kill, may_go, may_dissociate, may_close}
use Rattle.uv_machine.specs.Histories.{Allowed, after, IsLegal, state_of}
use Rattle.uv_machine.specs.Lives.{releases, releases_in, was_made_for}
use Rattle.uv_machine.specs.Destroys.{has_stood}
use Rattle.uv_machine.specs.Calls.{calls_with, calls_of, asked_in, asked_through, unanswered, asked_of}
use Rattle.uv_machine.specs.Reached.{OwnStands, LooksStand, UsesStand, IsCelled, IsBounded, Reached}
use Rattle.uv_machine.specs.Accounts.{steps_ahead, owed, costs, one_if, coming, brings}

-- A history that goes on.

abbrev pub StateGoesOn : Type 0
StateGoesOn = (h : List Entry) (e : Entry) → state_of (h ++ e ∷ []) ≡ after (state_of h) e

abbrev pub LegalGoesOn : Type 0
LegalGoesOn = (h : List Entry) (e : Entry) → IsLegal h → Allowed (state_of h) e → IsLegal (h ++ e ∷ [])

-- A call ends: each of its steps leaves fewer ahead, and at its Enter there are at most four and two for each look.

abbrev pub StepsRunOut : Type 0
StepsRunOut =
    (m : State) (c : ℕ) (w : Word) (o : ℕ) (found : Option QpState) (a : Answer) → Allowed m (Step c w o found a)
    → steps_ahead (call_of (after m (Step c w o found a)) c) < steps_ahead (call_of m c)

abbrev pub EntersWithFew : Type 0
EntersWithFew = (f : ℕ) (request : Request) → steps_ahead (Some (entered f request)) ≤ 4 + 2 * length (looks_of request)

abbrev pub LooksAreFew : Type 0
LooksAreFew = (request : Request) → length (looks_of request) ≤ 4

-- Calls stand apart: an entry of one actor leaves every other actor's call as it was.

abbrev pub is_of : ℕ → Entry → Bool
is_of b (Open c f d a) = false
is_of b (Enter c f request a) = c == b
is_of b (Step c w o found a) = c == b
is_of b (Unplug d) = false
is_of b (Tear f by) = false
is_of b (Kill o) = false
is_of b (Gone o kept) = false
is_of b (Dissociated f) = false
is_of b (Closed f) = false

abbrev pub CallsStandApart : Type 0
CallsStandApart = (m : State) (e : Entry) (b : ℕ) → is_of b e ≡ false → call_of (after m e) b ≡ call_of m b

-- no call is in flight
abbrev pub IsIdle : State → Type 0
IsIdle m = (b : ℕ) → call_of m b ≡ None

abbrev pub IdleIsQuiet : Type 0
IdleIsQuiet = (m : State) (f : ℕ) → IsIdle m → is_quiet m f ≡ true

-- An accepted Make has an id to give, a cell that is home, and room in the list of objects.

abbrev pub makes_object : Entry → Bool
makes_object (Open c f d a) = false
makes_object (Enter c f request a) = false
makes_object (Step c Reserve o found a) = false
makes_object (Step c Look o found a) = false
makes_object (Step c Make o found a) = is_none (refusal_in a)
makes_object (Step c Commit o found a) = false
makes_object (Step c Act o found a) = false
makes_object (Step c Lock o found a) = false
makes_object (Step c Check o found a) = false
makes_object (Step c Finish o found a) = false
makes_object (Step c Abort o found a) = false
makes_object (Step c Free o found a) = false
makes_object (Step c Exit o found a) = false
makes_object (Unplug d) = false
makes_object (Tear f by) = false
makes_object (Kill o) = false
makes_object (Gone o kept) = false
makes_object (Dissociated f) = false
makes_object (Closed f) = false

abbrev pub MakeHasPlace : Type 0
MakeHasPlace =
    (m : State) (c o : ℕ) (found : Option QpState) (call : InFlight) (kind : Kind) → call_of m c ≡ Some call → role_of call.request ≡ Creates kind
    → Allowed m (Step c Make o found answer.Ok) → (m.made ≢ NONE) × (o ≡ m.made) × IsSome (home_cell m kind)

-- an entry finds room in a list of objects that has room for `MOST_OBJECTS`
abbrev pub HasRoom : State → Entry → Type 0
HasRoom m e = makes_object e ≡ true → length m.objects < MOST_OBJECTS

abbrev pub MakeHasRoom : Type 0
MakeHasRoom = (h : List Entry) (e : Entry) → IsLegal h → Allowed (state_of h) e → HasRoom (state_of h) e

-- The entries that are owed are enough.

abbrev pub OwedCovers : Type 0
OwedCovers = (m : State) (e : Entry) → Allowed m e → owed (after m e) + 1 ≤ owed m + costs e

-- And no Make comes that wasn't counted.

abbrev pub ComingCovers : Type 0
ComingCovers = (m : State) (e : Entry) → Allowed m e → coming (after m e) + one_if (makes_object e) ≤ coming m + brings e

-- A teardown of a file, once no call on it is in flight and its tear is made: while an object can go it is killed and is gone,
-- and when none can go the teardown ends.

pub record IsSwept (h : List Entry) (f : ℕ) (by : ℕ) : Type 0 where
  pub legal : IsLegal h
  pub quiet : is_quiet (state_of h) f ≡ true
  pub tearing : phase_of (state_of h) f ≡ file.Tearing by
  pub clear : has_doomed (state_of h) f ≡ false

-- the objects of a file that have not been released
abbrev pub standing_count : State → ℕ → ℕ
standing_count m f = count_by (is_standing_in f) m.objects

abbrev pub SweepBegins : Type 0
SweepBegins =
    (h : List Entry) (f : ℕ) (by : ℕ) → IsLegal h → is_quiet (state_of h) f ≡ true → Allowed (state_of h) (Tear f by)
    → IsSwept (h ++ Tear f by ∷ []) f by

abbrev pub SweepKills : Type 0
SweepKills = (h : List Entry) (f by : ℕ) (x : Object) → IsSwept h f by → newest_free (state_of h) f ≡ Some x → may_kill (state_of h) x.id ≡ true

abbrev pub SweepReleases : Type 0
SweepReleases =
    (h : List Entry) (f by : ℕ) (x : Object) → IsSwept h f by → newest_free (state_of h) f ≡ Some x → may_go (state_of (h ++ Kill x.id ∷ [])) x.id ≡ true

abbrev pub SweepGoesOn : Type 0
SweepGoesOn =
    (h : List Entry) (f by kept : ℕ) (x : Object) → IsSwept h f by → newest_free (state_of h) f ≡ Some x
    → IsSwept ((h ++ Kill x.id ∷ []) ++ Gone x.id kept ∷ []) f by
    × (standing_count (state_of ((h ++ Kill x.id ∷ []) ++ Gone x.id kept ∷ [])) f < standing_count (state_of h) f)

abbrev pub SweepEnds : Type 0
SweepEnds = (h : List Entry) (f by : ℕ) → IsSwept h f by → by ≢ DRIVER → newest_free (state_of h) f ≡ None → may_close (state_of h) f ≡ true

abbrev pub SweepLeaves : Type 0
SweepLeaves = (h : List Entry) (f : ℕ) → IsSwept h f DRIVER → newest_free (state_of h) f ≡ None → may_dissociate (state_of h) f ≡ true

-- while an object of a quiet file is live and none is doomed, one can go
abbrev pub FindsFree : Type 0
FindsFree =
    (h : List Entry) (f : ℕ) → IsLegal h → is_quiet (state_of h) f ≡ true → has_doomed (state_of h) f ≡ false
    → list_any (is_live_in f) (state_of h).objects ≡ true → IsSome (newest_free (state_of h) f)

-- what a kill of the sweep leaves of its object
abbrev pub SweepShows : Type 0
SweepShows =
    (h : List Entry) (f by : ℕ) (x : Object) → IsSwept h f by → newest_free (state_of h) f ≡ Some x
    → (object_with (state_of (h ++ Kill x.id ∷ [])) x.id ≡ Some (with_change ToDoomed x)) × (x.file ≡ f)

-- Files: what is opened stands open, and calls and the releases of objects leave every file's phase.

abbrev pub OpenIsOpen : Type 0
OpenIsOpen =
    (h : List Entry) (c f d : ℕ) → IsLegal h → Allowed (state_of h) (Open c f d answer.Ok)
    → phase_of (state_of (h ++ Open c f d answer.Ok ∷ [])) f ≡ file.Open

abbrev pub moves_file : Entry → Bool
moves_file (Open c f d a) = true
moves_file (Enter c f request a) = false
moves_file (Step c w o found a) = false
moves_file (Unplug d) = false
moves_file (Tear f by) = true
moves_file (Kill o) = false
moves_file (Gone o kept) = false
moves_file (Dissociated f) = true
moves_file (Closed f) = true

abbrev pub PhasesStandApart : Type 0
PhasesStandApart = (m : State) (e : Entry) (f : ℕ) → moves_file e ≡ false → phase_of (after m e) f ≡ phase_of m f

-- the entry moves this file to another phase
abbrev pub moves : ℕ → Entry → Bool
moves g (Open c f d a) = f == g
moves g (Enter c f request a) = false
moves g (Step c w o found a) = false
moves g (Unplug d) = false
moves g (Tear f by) = f == g
moves g (Kill o) = false
moves g (Gone o kept) = false
moves g (Dissociated f) = f == g
moves g (Closed f) = f == g

abbrev pub FilesStandApart : Type 0
FilesStandApart = (m : State) (e : Entry) (g : ℕ) → moves g e ≡ false → phase_of (after m e) g ≡ phase_of m g

-- What is true of every state that a legal history leads to.

abbrev pub LegalIsReached : Type 0
LegalIsReached = (h : List Entry) → IsLegal h → Reached (state_of h)

abbrev pub LegalOwnStands : Type 0
LegalOwnStands = (h : List Entry) → IsLegal h → OwnStands (state_of h)

abbrev pub LegalLooksStand : Type 0
LegalLooksStand = (h : List Entry) → IsLegal h → LooksStand (state_of h)

abbrev pub LegalUsesStand : Type 0
LegalUsesStand = (h : List Entry) → IsLegal h → UsesStand (state_of h)

abbrev pub LegalIsCelled : Type 0
LegalIsCelled = (h : List Entry) → IsLegal h → IsCelled (state_of h).pools (state_of h).objects

abbrev pub LegalIsBounded : Type 0
LegalIsBounded = (h : List Entry) → IsLegal h → IsBounded (state_of h)

-- The lives of objects: one is released once at most, and not while it has users; and when a teardown ends, each object that its
-- file ever had was released.

abbrev pub ReleasedAtMostOnce : Type 0
ReleasedAtMostOnce = (h : List Entry) (o : ℕ) → IsLegal h → releases_in h o ≤ 1

abbrev pub UsersFirst : Type 0
UsersFirst = (h : List Entry) (e : Entry) (o : ℕ) → IsLegal h → Allowed (state_of h) e → releases (state_of h) o e ≡ true → has_users (state_of h) o ≡ false

abbrev pub ReleasedOnce : Type 0
ReleasedOnce =
    (h : List Entry) (f o : ℕ) → IsLegal h → Allowed (state_of h) (Dissociated f) ⊎ Allowed (state_of h) (Closed f) → was_made_for h f o ≡ true
    → releases_in h o ≡ 1

-- A destroy that met neither ENOENT nor EINVAL answers EBUSY exactly where another call held the object at its Lock or another
-- object used it at its Check, and else Ok.

abbrev pub DestroyAnswers : Type 0
DestroyAnswers =
    (h : List Entry) (c o : ℕ) (found : Option QpState) (a : Answer) (call : InFlight) (asked : Ask) → IsLegal h → call_of (state_of h) c ≡ Some call
    → role_of call.request ≡ Destroys asked → Allowed (state_of h) (Step c Exit o found a) → a ≢ answer.Refused NoEnt → a ≢ answer.Refused Inval
    → a ≡ (if has_stood h c then answer.Refused Busy else answer.Ok)

-- A client's calls: they go on with the history, they are what it asked for, in order, and one has no answer yet exactly while
-- a call of it is in flight.

abbrev pub CallsGoOn : Type 0
CallsGoOn = (h : List Entry) (e : Entry) (c : ℕ) → calls_of (h ++ e ∷ []) c ≡ calls_with c (calls_of h c) e

abbrev pub CallsInOrder : Type 0
CallsInOrder = (h : List Entry) (c : ℕ) → map asked_in (calls_of h c) ≡ asked_through c h

abbrev pub CallsInFlight : Type 0
CallsInFlight = (h : List Entry) (c : ℕ) → IsLegal h → unanswered (calls_of h c) ≡ asked_of (call_of (state_of h) c)
