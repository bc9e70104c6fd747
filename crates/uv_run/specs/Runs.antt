-- A run under way, as definitions see it.
use Rattle.std.specs.Prelude.{ℕ, ◌≡◌, false}
use Rattle.uv_run.specs.declared.running.Run.{Run}
use Rattle.uv_run.specs.declared.flights.Flights.{Flights}
use Rattle.uv_num.specs.declared.limits.TheConstants.{ENDER}
use Rattle.uv_run.specs.Site.{Site, is_busy}
use Rattle.uv_machine.specs.Histories.{state_of}
use Rattle.uv_world.specs.Seating.{TakesOneSpare}
use Rattle.uv_run.specs.Sound.{EndsStay, IsSound, site_of}
use Rattle.uv_run.specs.Stand.{Stand}

abbrev pub stand_of : Run → Stand
stand_of r = record { site = site_of r.flights; begun = r.begun; replies = r.replies; said = r.said }

-- who has nothing in flight has nothing in flight
abbrev pub StaysIdle : Site → Site → Type 0
StaysIdle s s' = (b : ℕ) → is_busy s b ≡ false → is_busy s' b ≡ false

-- events have come: nobody has begun anything, and no room for refused entries went
pub record StaysSound (old new : Flights) : Type 0 where
  pub sound : IsSound new
  pub spares : new.world.core.spares ≡ old.world.core.spares
  pub idle : StaysIdle (site_of old) (site_of new)
  pub ends : EndsStay (state_of old.world.core.history) (state_of new.world.core.history)

-- a line was played: of each actor's room for refused entries one went at most, and the end of the script has not begun
pub record GoesSound (old new : Flights) : Type 0 where
  pub sound : IsSound new
  pub spares : TakesOneSpare old.world.core new.world.core
  pub ender : is_busy (site_of old) ENDER ≡ false → is_busy (site_of new) ENDER ≡ false
