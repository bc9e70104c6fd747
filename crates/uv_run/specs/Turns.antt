-- Events one after the other: a run to the end.
use Rattle.std.specs.Prelude.{ℕ, zero, suc, ◌≡◌, ◌+◌, Bool, false, not, ◌||◌, ◌==◌, Option, None, Some, if◌then◌else◌}
use Rattle.uv_num.specs.declared.limits.TheConstants.{ACTORS}
use Rattle.uv_machine.specs.Plans.{is_call_on}
use Rattle.uv_machine.specs.States.{call_of, phase_of, is_removing}
use Rattle.uv_run.specs.declared.flight.Teardown.{Teardown}
use Rattle.uv_run.specs.declared.flight.Teardown.TheVariants.{Closing, Unplugging}
use Rattle.uv_run.specs.declared.heard.Event.{Event}
use Rattle.uv_run.specs.declared.heard.Event.TheVariants as event
use Rattle.uv_run.specs.declared.reply.Telling.{Telling}
use Rattle.uv_run.specs.declared.reply.Telling.TheVariants.{ToEnd}
use Rattle.uv_run.specs.Site.{Site, Turned, state_at, teardown_of, is_busy, event_of}
use Rattle.uv_run.specs.Stand.{Stand, begun_by, after_turned}

-- One event of an actor, and what is told of it.
abbrev pub after_event : Telling → Stand → ℕ → Stand
after_event m s a = after_turned m s a (begun_by s a) (event_of s.site a)

-- Whom an actor waits for.

-- the driver is on the file that it is tearing down
abbrev pub is_teardown_on : Site → ℕ → Option Teardown → Bool
is_teardown_on s f None = false
is_teardown_on s f (Some (Closing g)) = g == f
is_teardown_on s f (Some (Unplugging d)) = is_removing (phase_of (state_at s) f)

-- an actor has a call or a teardown in flight on the file
abbrev pub is_on : Site → ℕ → ℕ → Bool
is_on s f b = is_call_on f (call_of (state_at s) b) || is_teardown_on s f (teardown_of s b)

-- another actor that is on the file makes one event
abbrev pub other_goes : Stand → ℕ → ℕ → ℕ → Stand
other_goes s a f b = if (b == a) || not (is_on s.site f b) then s else after_event ToEnd s b

-- so many of the actors, from 1 on
unfoldable pub others_of : ℕ → Stand → ℕ → ℕ → Stand
others_of zero s a f = s
others_of (suc n) s a f = other_goes (others_of n s a f) a f (n + 1)

-- each other actor that is on the file makes one event, in their order
abbrev pub others_go : Stand → ℕ → ℕ → Stand
others_go s a f = others_of ACTORS s a f

-- the file on which an event had to wait
abbrev pub awaited : Event → Option ℕ
awaited event.Silent = None
awaited event.Began = None
awaited (event.Stepped word refusal) = None
awaited (event.Torn f) = None
awaited (event.Killed x) = None
awaited (event.Went x) = None
awaited (event.Dissociates f) = None
awaited (event.Closes f) = None
awaited (event.NotYet f calls) = Some f
awaited (event.TornBy f by) = Some f

abbrev pub others_if : Option ℕ → ℕ → Stand → Stand
others_if None a s = s
others_if (Some f) a s = others_go s a f

-- what stands after an event of a run to the end: where it had to wait, the others have gone on
abbrev pub after_waiting : Telling → Stand → ℕ → ℕ → Turned → Stand
after_waiting m s a n t = others_if (awaited t.heard.event) a (after_turned m s a n t)

unfoldable pub one_turn : Telling → Stand → ℕ → Stand
one_turn m s a = after_waiting m s a (begun_by s a) (event_of s.site a)

unfoldable pub turns_of : ℕ → Telling → Stand → ℕ → Stand
turns_of zero m s a = s
turns_of (suc n) m s a = one_turn m (turns_of n m s a) a

-- what an actor has in flight has run to its end
pub record RunsOut (m : Telling) (s : Stand) (a : ℕ) (s' : Stand) : Type 0 where
  pub count : ℕ
  pub made : s' ≡ turns_of count m s a
  pub ended : is_busy s'.site a ≡ false
