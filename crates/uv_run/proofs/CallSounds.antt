-- Sites stay sound over the steps of calls.
use Rattle.std.proofs.Common.{◌≡◌, ℕ, Bool, true, false, List, [], ◌∷◌, ◌++◌, Option, Some, None, slice_get, refl, ap, sym, ◌∙◌, subst, arith}
use Rattle.std.specs.Prelude.{◌≢◌, ◌==◌, if◌then◌else◌, map, not}
use Rattle.std.proofs.lemmas.Bool.{ne_eqb}
use Rattle.uv_num.specs.Ranges.{is_in_range}
use Rattle.uv_num.specs.declared.limits.TheConstants.{DRIVER}
use Rattle.uv_machine.specs.declared.call.InFlight.{InFlight}
use Rattle.uv_machine.specs.declared.entry.CallStep.{CallStep}
use Rattle.uv_machine.specs.declared.entry.Entry.{Entry}
use Rattle.uv_machine.specs.declared.state.State.{State}
use Rattle.uv_machine.specs.Histories.{Allowed, IsActor, IsLegal, IsLegalFrom, after, state_from, state_of}
use Rattle.uv_machine.specs.Laws.{moves_file}
use Rattle.uv_machine.specs.States.{call_of, phase_of}
use Rattle.uv_graph.specs.declared.out.Own.{Own}
use Rattle.uv_graph.specs.Conditions.{IsClient}
use Rattle.uv_graph.specs.Owns.{is_torn_by, none_pulled, own_of, pulled_by}
use Rattle.uv_graph.specs.Turns.{step_entry}
use Rattle.uv_core.specs.Beside.{OthersKeep}
use Rattle.uv_world.specs.declared.world.Doomed.{Doomed}
use Rattle.uv_world.specs.declared.world.World.{World}
use Rattle.uv_world.specs.Celled.{value_of_slot}
use Rattle.uv_world.specs.Seating.{CallIsSeated, IsWorld, stage_of}
use Rattle.uv_world.specs.Stages.{stage_then}
use Rattle.uv_world.specs.Tearing.{object_doomed}
use Rattle.uv_run.specs.declared.flight.Teardown.{Teardown}
use Rattle.uv_run.specs.declared.flight.Teardown.TheVariants.{Closing, Unplugging}
use Rattle.uv_run.specs.declared.flights.Flights.{Flights}
use Rattle.uv_run.specs.Site.{killed_of, teardown_of, torn_by}
use Rattle.uv_run.specs.Sound.{FitsIn, IsSound, Moved, TeardownFits, TearsOnly, site_of}
use Rattle.uv_run.proofs.Ending.{ends_entry, moved_none}
use Rattle.uv_run.proofs.MachineLaws.{phases_stand_apart, state_goes_on}
use Rattle.uv_run.proofs.Sounds.{doomed_is, kept_by, more_of, moved_after, object_kept, stay_same}
use Rattle.uv_run.proofs.Tears.{torn_stays}

-- The last entry of a legal history is allowed where it stands.

allowed_from : (m : State) (h : List Entry) (e : Entry) → IsLegalFrom m (h ++ e ∷ []) → Allowed (state_from m h) e
allowed_from m [] e legal = legal.0
allowed_from m (x ∷ h) e legal = allowed_from (after m x) h e legal.1

pub last_allowed : (h g : List Entry) (e : Entry) → IsLegal g → g ≡ h ++ e ∷ [] → Allowed (state_of h) e
last_allowed h g e legal is = allowed_from _ h e (subst IsLegal is legal)

-- the state after a history that is longer by an entry
pub state_more : (h g : List Entry) (e : Entry) → g ≡ h ++ e ∷ [] → state_of g ≡ after (state_of h) e
state_more h g e is = ap state_of is ∙ state_goes_on h e

-- Parts of an actor.

call_from : (a : ℕ) (slot : Option InFlight) (call : InFlight) (d : Option Doomed) → CallIsSeated a slot d → slot ≡ Some call → IsClient a × (is_in_range call.request ≡ true) × (d ≡ None)
call_from a slot call d seated is =
    let P : Option InFlight → Type 0 = λ v. CallIsSeated a v d in
    subst P is seated

-- who makes a call is a client
pub client_of_call : (w : Flights) (a : ℕ) (call : InFlight) → IsSound w → call_of (state_of w.world.core.history) a ≡ Some call → IsClient a
client_of_call w a call sound is = (call_from a (call_of (state_of w.world.core.history) a) call (value_of_slot w.world.doomed a) (sound.world.seated.seats a).call is).0

pub suits_stay : (o o' : Own) (t : Option Teardown) → o'.actor ≡ o.actor → o'.tear ≡ o.tear → o'.pulled ≡ o.pulled → TeardownFits o t → TeardownFits o' t
suits_stay o o' None actor tear pulled suits = tear ∙ suits
suits_stay o o' (Some (Closing f)) actor tear pulled suits =
    let P : ℕ → Type 0 = λ v. IsActor v in
    let Q : ℕ → Type 0 = λ v. v ≢ DRIVER in
    let R : Option ℕ → Type 0 = λ v. TearsOnly v f in
    (subst P (sym actor) suits.0, subst Q (sym actor) suits.1, suits.2, subst R (sym tear) suits.3)
suits_stay o o' (Some (Unplugging d)) actor tear pulled suits =
    let R : List Bool → Type 0 = λ v. slice_get v d ≡ Some true in
    (actor ∙ suits.0, suits.1, subst R (sym pulled) suits.2)

-- devices are the driver's
pub pulled_other : (m m' : State) (a : ℕ) → a ≢ DRIVER → pulled_by m' a ≡ pulled_by m a
pulled_other m m' a ne =
    let e : (a == DRIVER) ≡ false = ne_eqb a DRIVER ne in
    ap (λ (v : Bool). if v then map not m'.plugged else none_pulled) e ∙ sym (ap (λ (v : Bool). if v then map not m.plugged else none_pulled) e)

pub client_not : (a : ℕ) → IsClient a → a ≢ DRIVER
client_not a client e = omega (arith, client.1, e)

-- an entry that moves no file leaves what an actor tears
pub torn_kept : (h g : List Entry) (e : Entry) (a : ℕ) → g ≡ h ++ e ∷ [] → moves_file e ≡ false → torn_by (state_of g) a ≡ torn_by (state_of h) a
torn_kept h g e a more none =
    torn_stays (state_of h) (state_of g) a (λ f. ap (λ (s : State). is_torn_by a (phase_of s f)) (state_more h g e more) ∙ ap (is_torn_by a) (phases_stand_apart (state_of h) e f none))

-- A step.

-- what is kept of a teardown stays where nothing of it changes
pub kept_same : (old new : Flights) (a : ℕ) → IsSound old → IsWorld new.world → object_doomed (value_of_slot new.world.doomed a) ≡ object_doomed (value_of_slot old.world.doomed a) → killed_of (site_of new) a ≡ killed_of (site_of old) a
    → teardown_of (site_of new) a ≡ teardown_of (site_of old) a → TeardownFits (own_of new.world.core a) (teardown_of (site_of old) a) → FitsIn new a
kept_same old new a sound world doomed killed teardown suits =
    let T : Option Teardown → Type 0 = λ v. TeardownFits (own_of new.world.core a) v in
    record {
      kills = kept_by (own_of new.world.core a) (value_of_slot new.world.doomed a) (killed_of (site_of new) a) (world.seated.seats a).doomed_is (doomed ∙ (doomed_is old a sound ∙ sym (ap object_kept killed)));
      suits = subst T (sym teardown) suits;
    }

-- a call has made a step
pub step_moved :
    (old : Flights) (now : World) (a : ℕ) (call : InFlight) (d : CallStep) → IsSound old → call_of (state_of old.world.core.history) a ≡ Some call → stage_of now ≡ stage_then (stage_of old.world) (step_entry a d)
    → now.core.spares ≡ old.world.core.spares → OthersKeep a old.world.core now.core → now.doomed ≡ old.world.doomed → IsWorld now → Moved a old (record old { world = now })
step_moved old now a call d sound is stage spares keep doomed world =
    let new : Flights = record old { world = now } in
    let more = more_of old.world now (step_entry a d) stage in
    let m = state_of old.world.core.history in
    moved_after old new a sound world (record { teardowns = refl; killed = refl }) spares keep (stay_same old new a refl refl)
    (ends_entry old.world.core now.core (step_entry a d) more (λ f. moved_none m (step_entry a d) f refl))
    (kept_same old new a sound world (ap (λ (v : List (Option Doomed)). object_doomed (value_of_slot v a)) doomed) refl refl
    (suits_stay (own_of old.world.core a) (own_of now.core a) (teardown_of (site_of old) a) refl (torn_kept old.world.core.history now.core.history (step_entry a d) a more refl)
    (pulled_other m (state_of now.core.history) a (client_not a (client_of_call old a call sound is))) (sound.fits a).suits))
