-- What is so of every site that a run comes to: its world is one, and each actor's own part of the core fits the teardown that it
-- has in flight.
use Rattle.std.specs.Prelude.{ℕ, ◌≡◌, ◌≢◌, ◌≤◌, ◌<◌, ◌==◌, Bool, true, false, Option, None, Some, length}
use Rattle.uv_num.specs.declared.limits.TheConstants.{ACTOR_PLACES, DEVICES, DRIVER, ENDER, FILES}
use Rattle.uv_machine.specs.declared.file.FilePhase.{FilePhase}
use Rattle.uv_machine.specs.declared.file.FilePhase.TheVariants as file
use Rattle.uv_machine.specs.declared.state.State.{State}
use Rattle.uv_machine.specs.States.{phase_of}
use Rattle.uv_machine.specs.Histories.{IsActor, state_of}
use Rattle.uv_graph.specs.declared.out.Out.{Out}
use Rattle.uv_graph.specs.declared.out.Own.{Own}
use Rattle.uv_graph.specs.Conditions.{IsClient, Pulls}
use Rattle.uv_graph.specs.Kept.{Kept, spare_of}
use Rattle.uv_graph.specs.Owns.{own_of}
use Rattle.uv_core.specs.Beside.{OthersKeep}
use Rattle.uv_world.specs.Holdings.{held_of}
use Rattle.uv_world.specs.Seating.{IsWorld, TakesOneSpare}
use Rattle.uv_run.specs.declared.flight.Killed.{Killed}
use Rattle.uv_run.specs.declared.flight.Teardown.{Teardown}
use Rattle.uv_run.specs.declared.flight.Teardown.TheVariants.{Closing, Unplugging}
use Rattle.uv_run.specs.declared.flights.Flights.{Flights}
use Rattle.uv_run.specs.Site.{Site, teardown_of, killed_of}

-- the site of a world with its teardowns
abbrev pub site_of : Flights → Site
site_of w = record { history = w.world.core.history; held = held_of w.world.contents; teardowns = w.teardowns; killed = w.killed }

-- what is told of an object is kept exactly while the teardown has its deed out
abbrev pub HoldsKilled : Option Out → Option Killed → Type 0
HoldsKilled None None = Unit {0}
HoldsKilled None (Some x) = ⊥
HoldsKilled (Some out) None = ⊥
HoldsKilled (Some out) (Some x) = x.object ≡ out.identity.id

-- the file that is torn, if there is one, is this
abbrev pub TearsOnly : Option ℕ → ℕ → Type 0
TearsOnly None f = Unit {0}
TearsOnly (Some g) f = g ≡ f

-- the driver removes files of a device that it has pulled, and any other actor closes a file
abbrev pub TeardownFits : Own → Option Teardown → Type 0
TeardownFits o None = o.tear ≡ None
TeardownFits o (Some (Closing f)) = IsActor o.actor × (o.actor ≢ DRIVER) × (f < FILES) × TearsOnly o.tear f
TeardownFits o (Some (Unplugging d)) = (o.actor ≡ DRIVER) × (d < DEVICES) × Pulls o d

-- an actor's own part fits what it has in flight
pub record HandsFit (o : Own) (teardown : Option Teardown) (killed : Option Killed) : Type 0 where
  pub kills : HoldsKilled o.kill killed
  pub suits : TeardownFits o teardown

-- the same of the actor at a site
abbrev pub FitsIn : Flights → ℕ → Type 0
FitsIn w a = HandsFit (own_of w.world.core a) (teardown_of (site_of w) a) (killed_of (site_of w) a)

pub record IsSound (w : Flights) : Type 0 where
  pub world : IsWorld w.world
  pub teardowns : length w.teardowns ≡ ACTOR_PLACES
  pub killed : length w.killed ≡ ACTOR_PLACES
  pub fits : (a : ℕ) → FitsIn w a

-- what other actors have beside the world stays
pub record OthersStay (a : ℕ) (old new : Flights) : Type 0 where
  pub teardowns : (b : ℕ) → b ≢ a → teardown_of (site_of new) b ≡ teardown_of (site_of old) b
  pub killed : (b : ℕ) → b ≢ a → killed_of (site_of new) b ≡ killed_of (site_of old) b

-- a file that was never opened or is closed, or that the end of the script is tearing
abbrev pub is_ending : FilePhase → Bool
is_ending file.Fresh = true
is_ending file.Open = false
is_ending (file.Tearing by) = by == ENDER
is_ending file.Dissociated = false
is_ending file.Closed = true

abbrev pub EndsStay : State → State → Type 0
EndsStay m m' = (f : ℕ) → is_ending (phase_of m f) ≡ true → is_ending (phase_of m' f) ≡ true

-- one actor alone has done something, which took no room for refused entries
pub record Moved (a : ℕ) (old new : Flights) : Type 0 where
  pub sound : IsSound new
  pub spares : new.world.core.spares ≡ old.world.core.spares
  pub keep : OthersKeep a old.world.core new.world.core
  pub stay : OthersStay a old new
  pub ends : EndsStay (state_of old.world.core.history) (state_of new.world.core.history)

-- each client has room for so many refused entries
abbrev pub HasSpares : ℕ → Kept → Type 0
HasSpares n k = (c : ℕ) → IsClient c → n ≤ spare_of k c

-- one actor alone has begun something
pub record Began (a : ℕ) (old new : Flights) : Type 0 where
  pub sound : IsSound new
  pub spares : TakesOneSpare old.world.core new.world.core
  pub keep : OthersKeep a old.world.core new.world.core
  pub stay : OthersStay a old new
