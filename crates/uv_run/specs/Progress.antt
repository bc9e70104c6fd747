-- How far a run to the end has come, and how an event takes it on.
use Rattle.std.specs.Prelude.{ℕ, ◌≡◌, ◌≢◌, ◌<◌, ◌≤◌, ◌+◌, ◌⊎◌, ◌==◌, true, false, List, Option, None, Some, sum_by, length}
use Rattle.uv_machine.specs.declared.file.FilePhase.TheVariants as file
use Rattle.uv_num.specs.declared.limits.TheConstants.{ACTORS}
use Rattle.uv_machine.specs.Accounts.{owed}
use Rattle.uv_machine.specs.States.{call_of, phase_of}
use Rattle.uv_graph.specs.Calls.{calls_on}
use Rattle.uv_graph.specs.Conditions.{IsClient}
use Rattle.uv_graph.specs.Kept.{Kept, spare_of}
use Rattle.uv_script.specs.declared.form.Line.{Line}
use Rattle.uv_run.specs.declared.flight.Teardown.{Teardown}
use Rattle.uv_run.specs.declared.heard.Event.{Event}
use Rattle.uv_run.specs.declared.heard.Event.TheVariants as event
use Rattle.uv_run.specs.declared.reply.Telling.{Telling}
use Rattle.uv_run.specs.Site.{Site, Turned, state_at, torn_by, is_busy}
use Rattle.uv_run.specs.Stand.{Stand}
use Rattle.uv_run.specs.Turns.{is_on, turns_of}

-- What is ahead.

abbrev pub flying : Option Teardown → ℕ
flying None = 0
flying (Some t) = 1

-- the entries that can still come without another open or enter, and the teardowns that can still end
abbrev pub ahead : Site → ℕ
ahead s = owed (state_at s) + sum_by flying s.teardowns

-- Who can't go on.

-- an actor waits for calls on the file that it tears
pub record WaitsForCalls (s : Site) (a f : ℕ) : Type 0 where
  pub call : call_of (state_at s) a ≡ None
  pub tears : torn_by (state_at s) a ≡ Some f
  pub calls : (calls_on (state_at s) f == 0) ≡ false

-- an actor waits for another one that tears the file
pub record WaitsForTear (s : Site) (a f by : ℕ) : Type 0 where
  pub call : call_of (state_at s) a ≡ None
  pub none : torn_by (state_at s) a ≡ None
  pub torn : phase_of (state_at s) f ≡ file.Tearing by
  pub other : by ≢ a

-- an actor made this event because it can't go on, or has nothing in flight
abbrev pub IsStuck : Site → ℕ → Event → Type 0
IsStuck s a event.Silent = is_busy s a ≡ false
IsStuck s a event.Began = ⊥
IsStuck s a (event.Stepped word refusal) = ⊥
IsStuck s a (event.Torn f) = ⊥
IsStuck s a (event.Killed x) = ⊥
IsStuck s a (event.Went x) = ⊥
IsStuck s a (event.Dissociates f) = ⊥
IsStuck s a (event.Closes f) = ⊥
IsStuck s a (event.NotYet f calls) = WaitsForCalls s a f
IsStuck s a (event.TornBy f by) = WaitsForTear s a f by

-- an event leaves less ahead, or its actor can't go on
abbrev pub Advances : Site → ℕ → Turned → Type 0
Advances s a t = (ahead t.site < ahead s) ⊎ ((t.site ≡ s) × IsStuck s a t.heard.event)

-- the same of two sites and an event
abbrev pub AdvancesBy : Site → Site → ℕ → Event → Type 0
AdvancesBy s s' a e = (ahead s' < ahead s) ⊎ ((s' ≡ s) × IsStuck s a e)

-- an actor on the file can't go on
pub record StuckOn (s : Site) (a : ℕ) : Type 0 where
  pub event : Event
  pub stuck : IsStuck s a event

-- the actors up to a number that are on a file, one aside, can't go on
abbrev pub AllStuck : Site → ℕ → ℕ → ℕ → Type 0
AllStuck s a f n = (b : ℕ) → 1 ≤ b → b ≤ n → b ≢ a → is_on s f b ≡ true → StuckOn s b

-- less is ahead, or the site is as it was and none of these actors can go on
abbrev pub Lowers : Site → Site → ℕ → ℕ → ℕ → Type 0
Lowers s s' a f n = (ahead s' < ahead s) ⊎ ((s' ≡ s) × AllStuck s a f n)

-- the same of one actor
abbrev pub LowersOne : Site → Site → ℕ → ℕ → ℕ → Type 0
LowersOne s s' a f b = (ahead s' < ahead s) ⊎ ((s' ≡ s) × (b ≢ a → is_on s f b ≡ true → StuckOn s b))

-- the same where somebody had to wait for a file
abbrev pub LowersOn : Site → Site → ℕ → Option ℕ → Type 0
LowersOn s s' a None = s' ≡ s
LowersOn s s' a (Some f) = Lowers s s' a f ACTORS

-- A run.

-- an actor has made turns, none but them
pub record HasTurned (m : Telling) (s : Stand) (a : ℕ) (s' : Stand) : Type 0 where
  pub count : ℕ
  pub made : s' ≡ turns_of count m s a

-- so many lines were played, and there is room for a refused entry of each one that is left
abbrev pub HasRoomFor : List Line → ℕ → Kept → Type 0
HasRoomFor lines i k = (c : ℕ) → IsClient c → length lines ≤ spare_of k c + i
