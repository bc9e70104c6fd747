-- What is true of a world at all times: the deed of each object that an actor has taken out of use lies with the actor,
-- ready to go back to the core.
use Rattle.std.specs.Prelude.{ℕ, true, ◌≡◌, ◌≤◌, ◌+◌, ◌++◌, ◌∷◌, List, [], Option, None, Some, length}
use Rattle.uv_num.specs.declared.identity.Identity.{Identity}
use Rattle.uv_num.specs.declared.limits.TheConstants.{ACTOR_PLACES}
use Rattle.uv_num.specs.Ranges.{is_in_range}
use Rattle.uv_pool.specs.declared.deed.Life.{Life}
use Rattle.uv_pool.specs.declared.plain.PlainDeed.{PlainDeed}
use Rattle.uv_pool.specs.Plain.{plain_facts}
use Rattle.uv_machine.specs.declared.call.InFlight.{InFlight}
use Rattle.uv_machine.specs.declared.entry.CallStep.{CallStep}
use Rattle.uv_machine.specs.Histories.{IsLegal, state_of}
use Rattle.uv_machine.specs.States.{call_of}
use Rattle.uv_graph.specs.declared.out.Out.{Out}
use Rattle.uv_graph.specs.declared.out.Own.{Own}
use Rattle.uv_graph.specs.Conditions.{IsClient, IsFinishing, IsReady, IsReleasing}
use Rattle.uv_graph.specs.Deeds.{IsDeedBuried, IsDeedForNew, IsDeedPlantedFor}
use Rattle.uv_graph.specs.Kept.{Kept, spare_of}
use Rattle.uv_graph.specs.Notes.{HasNoOut}
use Rattle.uv_graph.specs.Owns.{own_of}
use Rattle.uv_graph.specs.Turns.{step_entry}
use Rattle.uv_core.specs.Beside.{OthersKeep}
use Rattle.uv_core.specs.Roles.{is_any}
use Rattle.uv_world.specs.declared.world.Doomed.{Doomed}
use Rattle.uv_world.specs.declared.world.World.{World}
use Rattle.uv_world.specs.Celled.{value_of_slot}
use Rattle.uv_world.specs.Fitting.{StageFits}
use Rattle.uv_world.specs.Holdings.{held_of}
use Rattle.uv_world.specs.Owing.{IsHoused}
use Rattle.uv_world.specs.Stages.{Stage, stage_next}

abbrev pub stage_of : World → Stage
stage_of w = record { history = w.core.history; held = held_of w.contents }

-- Deeds.

-- a deed planted for an object is planted for what it is out for
abbrev pub GoesPlanted : PlainDeed → Identity → PlainDeed → Type 0
GoesPlanted deed x now = (out : Out) (lives told : List Life) → out.identity ≡ x → IsDeedForNew (plain_facts deed) out lives → IsDeedPlantedFor (plain_facts now) out told

-- and a planted one that is buried is buried for it
abbrev pub GoesBuried : PlainDeed → PlainDeed → Type 0
GoesBuried deed now = (out : Out) (lives told : List Life) → IsDeedPlantedFor (plain_facts deed) out lives → IsDeedBuried (plain_facts now) out told

-- Actors.

-- a call is a client's and in its ranges, and who makes it tears nothing down
abbrev pub CallIsSeated : ℕ → Option InFlight → Option Doomed → Type 0
CallIsSeated a None doomed = Unit {0}
CallIsSeated a (Some call) doomed = IsClient a × (is_in_range call.request ≡ true) × (doomed ≡ None)

-- the deed that lies with an actor's call is the one that is out, and it may go back
abbrev pub HoldsRetired : Own → Option PlainDeed → Type 0
HoldsRetired o None = o.out ≡ None
HoldsRetired o (Some deed) = IsFinishing o (plain_facts deed)

-- so is the one that lies with a teardown, and its object is known
pub record IsDoomedBy (o : Own) (x : Doomed) : Type 0 where
  pub file : ℕ
  pub releasing : IsReleasing o file (plain_facts x.deed)
  pub object : x.object ≡ releasing.out.identity.id

abbrev pub HoldsDoomed : Own → Option Doomed → Type 0
HoldsDoomed o None = o.kill ≡ None
HoldsDoomed o (Some x) = IsDoomedBy o x

-- an actor's own part of the core fits what lies with the actor
pub record SeatFits (o : Own) (retired : Option PlainDeed) (doomed : Option Doomed) : Type 0 where
  pub call : CallIsSeated o.actor o.call doomed
  pub retired_is : HoldsRetired o retired
  pub doomed_is : HoldsDoomed o doomed

-- the history is legal, and each actor's seat fits
pub record AreSeated (k : Kept) (retired : List (Option PlainDeed)) (doomed : List (Option Doomed)) : Type 0 where
  pub legal : IsLegal k.history
  pub retired_size : length retired ≡ ACTOR_PLACES
  pub doomed_size : length doomed ≡ ACTOR_PLACES
  pub seats : (a : ℕ) → SeatFits (own_of k a) (value_of_slot retired a) (value_of_slot doomed a)

-- what is true of a world: its cells are live exactly while their objects are
pub record IsWorld (w : World) : Type 0 where
  pub seated : AreSeated w.core w.retired w.doomed
  pub housed : IsHoused w.contents
  pub fits : StageFits (stage_of w)

-- Who begins something.

-- an actor has no call in flight, and its teardown has nothing to release
pub record IsAtRest (k : Kept) (doomed : List (Option Doomed)) (a : ℕ) : Type 0 where
  pub call : call_of (state_of k.history) a ≡ None
  pub doomed_none : value_of_slot doomed a ≡ None

-- each client's spare entries get less by one at most
abbrev pub TakesOneSpare : Kept → Kept → Type 0
TakesOneSpare old new = (c : ℕ) → spare_of old c ≤ spare_of new c + 1

-- What calls come to.

-- an actor's call has made its next step at the core
pub record MakesNext (a : ℕ) (old new : World) : Type 0 where
  pub done : CallStep
  pub next : stage_next (stage_of old) a ≡ Some done
  pub history : new.core.history ≡ old.core.history ++ step_entry a done ∷ []
  pub spares : new.core.spares ≡ old.core.spares
  pub others : OthersKeep a old.core new.core
  pub contents : new.contents ≡ old.contents
  pub doomed : new.doomed ≡ old.doomed
  pub seated : AreSeated new.core new.retired new.doomed

-- the deed of a new object's cell went back planted
pub record HasPlanted (a : ℕ) (old new : World) : Type 0 where
  pub same : HasNoOut old.core new.core a
  pub ready : IsReady is_any (own_of new.core a)
  pub others : OthersKeep a old.core new.core
  pub legal : IsLegal new.core.history
  pub contents : new.contents ≡ old.contents
  pub retired : new.retired ≡ old.retired
  pub doomed : new.doomed ≡ old.doomed
