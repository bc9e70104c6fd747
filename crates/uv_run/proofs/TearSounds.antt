-- Sites stay sound over the events of teardowns.
use Rattle.std.proofs.Common.{◌≡◌, ℕ, ◌<◌, ◌≤◌, Bool, true, false, List, Option, Some, None, length, slice_get, refl, ap, sym, ◌∙◌, subst, arith}
use Rattle.std.specs.Prelude.{◌≢◌, ◌==◌, sum_by, map, not, if◌then◌else◌}
use Rattle.uv_num.specs.Place.{at_place}
use Rattle.uv_num.proofs.PlaceLaws.{length-at_place}
use Rattle.uv_num.specs.declared.limits.TheConstants.{ACTOR_PLACES, DRIVER}
use Rattle.uv_machine.specs.declared.entry.Entry.{Entry}
use Rattle.uv_machine.specs.declared.entry.Entry.TheVariants.{Tear, Kill, Gone, Dissociated, Closed}
use Rattle.uv_machine.specs.declared.state.State.{State}
use Rattle.uv_machine.specs.Accounts.{costs, owed}
use Rattle.uv_machine.specs.Histories.{IsActor, after, state_of}
use Rattle.uv_machine.specs.Laws.{moves_file}
use Rattle.uv_machine.specs.States.{object_with, phase_of}
use Rattle.uv_graph.specs.declared.out.Own.{Own}
use Rattle.uv_graph.specs.Owns.{TearsNone, is_torn_by, none_pulled, own_of, pulled_by}
use Rattle.uv_graph.specs.Seats.{slot_of}
use Rattle.uv_graph.specs.Slots.{put_slot}
use Rattle.uv_graph.specs.Turns.{last_entry}
use Rattle.uv_core.specs.Beside.{OthersKeep}
use Rattle.uv_world.specs.declared.world.Doomed.{Doomed}
use Rattle.uv_world.specs.declared.world.World.{World}
use Rattle.uv_world.specs.Celled.{value_of_slot}
use Rattle.uv_world.specs.Seating.{IsWorld, stage_of}
use Rattle.uv_world.specs.Stages.{Stage, stage_then}
use Rattle.uv_world.specs.Tearing.{object_doomed}
use Rattle.uv_run.specs.declared.flight.Killed.{Killed}
use Rattle.uv_run.specs.declared.flight.Teardown.{Teardown}
use Rattle.uv_run.specs.declared.flight.Teardown.TheVariants.{Closing, Unplugging}
use Rattle.uv_run.specs.declared.flights.Flights.{Flights}
use Rattle.uv_run.specs.Progress.{ahead, flying}
use Rattle.uv_run.specs.Site.{killed_of, last_of, teardown_of, torn_by}
use Rattle.uv_run.specs.Sound.{EndsStay, IsSound, Moved, TeardownFits, TearsOnly, is_ending, site_of}
use Rattle.uv_run.proofs.CallSounds.{kept_same, last_allowed, state_more, suits_stay}
use Rattle.uv_run.proofs.Ending.{ends_entry, ends_last, ends_tear, moved_none}
use Rattle.uv_run.proofs.Lowering.{end_lowers, fewer_none}
use Rattle.uv_run.proofs.MachineLaws.{phases_stand_apart}
use Rattle.uv_run.proofs.Sounds.{doomed_is, kept_by, more_of, moved_after, object_kept, put_there, slot_none, slot_other, stay_same}
use Rattle.uv_run.proofs.TearTurns.{last_is, plugged_gone}
use Rattle.uv_run.proofs.Tears.{torn_stays}

-- A call of the world that made no entry.

pub history_same : (old now : World) → stage_of now ≡ stage_of old → now.core.history ≡ old.core.history
history_same old now stage = ap (λ (s : Stage). s.history) stage

-- nothing has happened
pub still_moved :
    (a : ℕ) (old : Flights) (now : World) → IsSound old → IsWorld now → stage_of now ≡ stage_of old.world → now.core.spares ≡ old.world.core.spares → OthersKeep a old.world.core now.core
    → object_doomed (value_of_slot now.doomed a) ≡ object_doomed (value_of_slot old.world.doomed a) → Moved a old (record old { world = now })
still_moved a old now sound world stage spares keep doomed =
    let new : Flights = record old { world = now } in
    let same = history_same old.world now stage in
    let E : List Entry → Type 0 = λ v. EndsStay (state_of old.world.core.history) (state_of v) in
    moved_after old new a sound world (record { teardowns = refl; killed = refl }) spares keep (stay_same old new a refl refl) (subst E (sym same) (λ f is. is))
    (kept_same old new a sound world doomed refl refl
    (suits_stay (own_of old.world.core a) (own_of now.core a) (teardown_of (site_of old) a) refl (ap (λ (h : List Entry). torn_by (state_of h) a) same) (ap (λ (h : List Entry). pulled_by (state_of h) a) same) (sound.fits a).suits))

-- and who tore nothing tears nothing
pub tears_none : (a : ℕ) (old now : World) → stage_of now ≡ stage_of old → TearsNone (own_of old.core a) → TearsNone (own_of now.core a)
tears_none a old now stage none = ap (λ (h : List Entry). torn_by (state_of h) a) (history_same old now stage) ∙ none

-- The end of a teardown without an entry.

-- an actor's teardown has ended, and the world is as it was
pub record HasEnded (a : ℕ) (old new : Flights) : Type 0 where
  pub world : new.world ≡ old.world
  pub teardowns : new.teardowns ≡ at_place old.teardowns a (put_slot None)
  pub killed : new.killed ≡ old.killed

pub ended_by : (a : ℕ) (old new : Flights) → new ≡ record old { teardowns = at_place old.teardowns a (put_slot None) } → HasEnded a old new
ended_by a old new e = record { world = ap (λ (w : Flights). w.world) e; teardowns = ap (λ (w : Flights). w.teardowns) e; killed = ap (λ (w : Flights). w.killed) e }

pub ended_lowers : (a : ℕ) (old mid new : Flights) (t : Teardown) → mid.world.core.history ≡ old.world.core.history → mid.teardowns ≡ old.teardowns → HasEnded a mid new → teardown_of (site_of old) a ≡ Some t → ahead (site_of new) < ahead (site_of old)
ended_lowers a old mid new t same held ended is =
    let less = end_lowers old.teardowns a t is in
    let sum : sum_by flying new.teardowns ≡ sum_by flying (at_place old.teardowns a (put_slot None)) =
    ap (sum_by flying) ended.teardowns ∙ ap (λ (ts : List (Option Teardown)). sum_by flying (at_place ts a (put_slot None))) held
    in
    let owes : owed (state_of new.world.core.history) ≡ owed (state_of old.world.core.history) = ap (λ (w : World). owed (state_of w.core.history)) ended.world ∙ ap (λ (h : List Entry). owed (state_of h)) same in
    omega (arith, less, sum, owes)

pub ended_fewer : (a : ℕ) (old new : Flights) → HasEnded a old new → sum_by flying new.teardowns ≤ sum_by flying old.teardowns
ended_fewer a old new ended =
    let less = fewer_none old.teardowns a in
    let sum : sum_by flying new.teardowns ≡ sum_by flying (at_place old.teardowns a (put_slot None)) = ap (sum_by flying) ended.teardowns in
    omega (arith, less, sum)

ended_suits : (o o' : Own) (t : Option Teardown) → o' ≡ o → t ≡ None → o.tear ≡ None → TeardownFits o' t
ended_suits o o' t same gone none =
    let P : Option Teardown → Type 0 = λ v. TeardownFits o' v in
    let Q : Own → Type 0 = λ v. v.tear ≡ None in
    subst P (sym gone) (subst Q (sym same) none)

pub ended_moved : (a : ℕ) (old new : Flights) → IsSound old → HasEnded a old new → TearsNone (own_of old.world.core a) → Moved a old new
ended_moved a old new sound ended none =
    let own : (b : ℕ) → own_of new.world.core b ≡ own_of old.world.core b = λ b. ap (λ (w : World). own_of w.core b) ended.world in
    let gone : teardown_of (site_of new) a ≡ None = ap (λ (ts : List (Option Teardown)). slot_of (slice_get ts a)) ended.teardowns ∙ slot_none old.teardowns a in
    let world : IsWorld new.world = subst IsWorld (sym ended.world) sound.world in
    let killed : killed_of (site_of new) a ≡ killed_of (site_of old) a = ap (λ (v : List (Option Killed)). slot_of (slice_get v a)) ended.killed in
    let E : World → Type 0 = λ v. EndsStay (state_of old.world.core.history) (state_of v.core.history) in
    moved_after old new a sound world (record { teardowns = ap length ended.teardowns ∙ length-at_place old.teardowns a (put_slot None); killed = ap length ended.killed })
    (ap (λ (w : World). w.core.spares) ended.world) (λ b ne. own b)
    record {
      teardowns = λ b ne. ap (λ (ts : List (Option Teardown)). slot_of (slice_get ts b)) ended.teardowns ∙ slot_other old.teardowns a b None ne;
      killed = λ b ne. ap (λ (v : List (Option Killed)). slot_of (slice_get v b)) ended.killed;
    }
    (subst E (sym ended.world) (λ f is. is))
    record {
      kills =
          kept_by (own_of new.world.core a) (value_of_slot new.world.doomed a) (killed_of (site_of new) a) (world.seated.seats a).doomed_is
          (ap (λ (w : World). object_doomed (value_of_slot w.doomed a)) ended.world ∙ (doomed_is old a sound ∙ sym (ap object_kept killed)));
      suits = ended_suits (own_of old.world.core a) (own_of new.world.core a) (teardown_of (site_of new) a) (own a) gone none;
    }

-- A teardown's own entries.

-- the file that a close tears is its own
abbrev pub TearsFor : Teardown → Option ℕ → Type 0
TearsFor (Closing f) torn = TearsOnly torn f
TearsFor (Unplugging d) torn = Unit {0}

-- what a teardown wants of its actor's part stays where devices and the file do
pub suits_of : (o o' : Own) (t : Teardown) → TeardownFits o (Some t) → o'.actor ≡ o.actor → o'.pulled ≡ o.pulled → TearsFor t o'.tear → TeardownFits o' (Some t)
suits_of o o' (Closing f) suits actor pulled tear =
    let P : ℕ → Type 0 = λ v. IsActor v in
    let Q : ℕ → Type 0 = λ v. v ≢ DRIVER in
    (subst P (sym actor) suits.0, subst Q (sym actor) suits.1, suits.2, tear)
suits_of o o' (Unplugging d) suits actor pulled tear =
    let R : List Bool → Type 0 = λ v. slice_get v d ≡ Some true in
    (actor ∙ suits.0, suits.1, subst R (sym pulled) suits.2)

pub pulled_stays : (m m' : State) (a : ℕ) → m'.plugged ≡ m.plugged → pulled_by m' a ≡ pulled_by m a
pulled_stays m m' a e = ap (λ (v : List Bool). if a == DRIVER then map not v else none_pulled) e

-- an entry of a teardown that goes on
pub record GoesOn (a : ℕ) (old new : Flights) (t : Teardown) (e : Entry) : Type 0 where
  pub is : teardown_of (site_of old) a ≡ Some t
  pub world : IsWorld new.world
  pub stage : stage_of new.world ≡ stage_then (stage_of old.world) e
  pub spares : new.world.core.spares ≡ old.world.core.spares
  pub keep : OthersKeep a old.world.core new.world.core
  pub teardowns : new.teardowns ≡ old.teardowns
  pub size : length new.killed ≡ length old.killed
  pub killed : (b : ℕ) → b ≢ a → killed_of (site_of new) b ≡ killed_of (site_of old) b
  pub doomed : object_doomed (value_of_slot new.world.doomed a) ≡ object_kept (killed_of (site_of new) a)
  pub ends : (f : ℕ) → is_ending (phase_of (state_of old.world.core.history) f) ≡ true → is_ending (phase_of (after (state_of old.world.core.history) e) f) ≡ true

pub goes_on_moved :
    (a : ℕ) (old new : Flights) (t : Teardown) (e : Entry) → IsSound old → GoesOn a old new t e → (after (state_of old.world.core.history) e).plugged ≡ (state_of old.world.core.history).plugged
    → TearsFor t (torn_by (after (state_of old.world.core.history) e) a) → Moved a old new
goes_on_moved a old new t e sound g plugged tears =
    let more = more_of old.world new.world e g.stage in
    let now = state_more old.world.core.history new.world.core.history e more in
    let P : Option Teardown → Type 0 = λ v. TeardownFits (own_of old.world.core a) v in
    let S : Option Teardown → Type 0 = λ v. TeardownFits (own_of new.world.core a) v in
    let suits : TeardownFits (own_of old.world.core a) (Some t) = subst P g.is (sound.fits a).suits in
    let T : State → Type 0 = λ v. TearsFor t (torn_by v a) in
    let there : teardown_of (site_of new) a ≡ Some t = ap (λ (ts : List (Option Teardown)). slot_of (slice_get ts a)) g.teardowns ∙ g.is in
    moved_after old new a sound g.world (record { teardowns = ap length g.teardowns; killed = g.size }) g.spares g.keep
    record { teardowns = λ b ne. ap (λ (ts : List (Option Teardown)). slot_of (slice_get ts b)) g.teardowns; killed = g.killed }
    (ends_entry old.world.core new.world.core e more g.ends)
    record {
      kills = kept_by (own_of new.world.core a) (value_of_slot new.world.doomed a) (killed_of (site_of new) a) (g.world.seated.seats a).doomed_is g.doomed;
      suits =
          subst S (sym there)
          (suits_of (own_of old.world.core a) (own_of new.world.core a) t suits refl (ap (λ (s : State). pulled_by s a) now ∙ pulled_stays (state_of old.world.core.history) (after (state_of old.world.core.history) e) a plugged)
          (subst T (sym now) tears));
    }

for_same : (o : Own) (t : Teardown) (torn : Option ℕ) → torn ≡ o.tear → TeardownFits o (Some t) → TearsFor t torn
for_same o (Closing f) torn same suits =
    let P : Option ℕ → Type 0 = λ v. TearsOnly v f in
    subst P (sym same) suits.3
for_same o (Unplugging d) torn same suits = tt

pub suits_some : (w : Flights) (a : ℕ) (t : Teardown) → IsSound w → teardown_of (site_of w) a ≡ Some t → TeardownFits (own_of w.world.core a) (Some t)
suits_some w a t sound is =
    let P : Option Teardown → Type 0 = λ v. TeardownFits (own_of w.world.core a) v in
    subst P is (sound.fits a).suits

-- an entry that moves no file leaves what an actor tears
pub tears_same : (w : Flights) (a : ℕ) (t : Teardown) (e : Entry) → IsSound w → teardown_of (site_of w) a ≡ Some t → moves_file e ≡ false → TearsFor t (torn_by (after (state_of w.world.core.history) e) a)
tears_same w a t e sound is none =
    let m = state_of w.world.core.history in
    for_same (own_of w.world.core a) t (torn_by (after m e) a) (torn_stays m (after m e) a (λ g. ap (is_torn_by a) (phases_stand_apart m e g none))) (suits_some w a t sound is)

-- the driver's teardown names no file
pub removes_for : (t : Teardown) (d : ℕ) (torn : Option ℕ) → t ≡ Unplugging d → TearsFor t torn
removes_for (Closing f) d torn e = absurd (cc)
removes_for (Unplugging d) e torn is = tt

-- The tear of a file.

pub tear_moved :
    (a f by : ℕ) (old : Flights) (now : World) (t : Teardown) → IsSound old → teardown_of (site_of old) a ≡ Some t → IsWorld now → stage_of now ≡ stage_then (stage_of old.world) (Tear f by) → now.core.spares ≡ old.world.core.spares
    → OthersKeep a old.world.core now.core → now.doomed ≡ old.world.doomed → TearsFor t (torn_by (after (state_of old.world.core.history) (Tear f by)) a) → Moved a old (record old { world = now })
tear_moved a f by old now t sound is world stage spares keep doomed tears =
    goes_on_moved a old (record old { world = now }) t (Tear f by) sound
    record {
      is = is;
      world = world;
      stage = stage;
      spares = spares;
      keep = keep;
      teardowns = refl;
      size = refl;
      killed = λ b ne. refl;
      doomed = ap (λ (v : List (Option Doomed)). object_doomed (value_of_slot v a)) doomed ∙ doomed_is old a sound;
      ends = ends_tear (state_of old.world.core.history) f by (last_allowed old.world.core.history now.core.history (Tear f by) world.seated.legal (more_of old.world now (Tear f by) stage));
    }
    refl tears

-- The last entry of a teardown.

last_plugged : (m : State) (f : ℕ) (t : Teardown) → (after m (last_of f t)).plugged ≡ m.plugged
last_plugged m f (Closing g) = refl
last_plugged m f (Unplugging d) = refl

for_none : (t : Teardown) (torn : Option ℕ) → torn ≡ None → TearsFor t torn
for_none (Closing f) torn none =
    let P : Option ℕ → Type 0 = λ v. TearsOnly v f in
    subst P (sym none) tt
for_none (Unplugging d) torn none = tt

-- an entry by which an actor's teardown of a file ends
pub done_moved :
    (a f : ℕ) (old : Flights) (now : World) (t : Teardown) → IsSound old → teardown_of (site_of old) a ≡ Some t → IsWorld now → stage_of now ≡ stage_then (stage_of old.world) (last_entry a f) → now.core.spares ≡ old.world.core.spares
    → OthersKeep a old.world.core now.core → object_doomed (value_of_slot now.doomed a) ≡ object_kept (killed_of (site_of old) a) → TearsNone (own_of now.core a) → Moved a old (record old { world = now })
done_moved a f old now t sound is world stage spares keep doomed none =
    let m = state_of old.world.core.history in
    let e : last_entry a f ≡ last_of f t = last_is (own_of old.world.core a) f t (suits_some old a t sound is) in
    let to : stage_of now ≡ stage_then (stage_of old.world) (last_of f t) = stage ∙ ap (stage_then (stage_of old.world)) e in
    let more = more_of old.world now (last_of f t) to in
    goes_on_moved a old (record old { world = now }) t (last_of f t) sound
    record {
      is = is;
      world = world;
      stage = to;
      spares = spares;
      keep = keep;
      teardowns = refl;
      size = refl;
      killed = λ b ne. refl;
      doomed = doomed;
      ends = ends_last m f t (last_allowed old.world.core.history now.core.history (last_of f t) world.seated.legal more);
    }
    (last_plugged m f t) (for_none t (torn_by (after m (last_of f t)) a) (ap (λ (s : State). torn_by s a) (sym (state_more old.world.core.history now.core.history (last_of f t) more)) ∙ none))

free_if : (v : Bool) (f : ℕ) → costs (if v then Dissociated f else Closed f) ≡ 0
free_if true f = refl
free_if false f = refl

pub last_free : (a f : ℕ) → costs (last_entry a f) ≡ 0
last_free a f = free_if (a == DRIVER) f

-- Places of actors.

actor_of : (o : Own) (t : Teardown) → TeardownFits o (Some t) → IsActor o.actor
actor_of o (Closing f) suits = suits.0
actor_of o (Unplugging d) suits = let P : ℕ → Type 0 = λ v. IsActor v in subst P (sym suits.0) (omega arith, omega arith)

-- who has a teardown in flight is an actor
pub actor_is : (a : ℕ) (w : Flights) (t : Teardown) → IsSound w → teardown_of (site_of w) a ≡ Some t → IsActor a
actor_is a w t sound is = actor_of (own_of w.world.core a) t (suits_some w a t sound is)

actor_in : (a : ℕ) (o : Own) (t : Teardown) → o.actor ≡ a → TeardownFits o (Some t) → a < ACTOR_PLACES
actor_in a o (Closing f) is suits = omega (arith, is, suits.0.1)
actor_in a o (Unplugging d) is suits = omega (arith, is, suits.0)

pub actor_low : (a : ℕ) (w : Flights) (t : Teardown) → IsSound w → teardown_of (site_of w) a ≡ Some t → a < ACTOR_PLACES
actor_low a w t sound is = actor_in a (own_of w.world.core a) t refl (suits_some w a t sound is)

-- What a kill leaves.

pub kill_moved :
    (a o : ℕ) (old : Flights) (now : World) (new : Flights) (t : Teardown) (x : Killed) → IsSound old → teardown_of (site_of old) a ≡ Some t → IsWorld now → stage_of now ≡ stage_then (stage_of old.world) (Kill o)
    → now.core.spares ≡ old.world.core.spares → OthersKeep a old.world.core now.core → object_doomed (value_of_slot now.doomed a) ≡ Some x.object → new ≡ record old { world = now; killed = at_place old.killed a (put_slot (Some x)) } → Moved a old new
kill_moved a o old now new t x sound is world stage spares keep doomed put =
    let killed = at_place old.killed a (put_slot (Some x)) in
    let there : slot_of (slice_get killed a) ≡ Some x = put_there old.killed a (Some x) (subst (λ (n : ℕ). a < n) (sym sound.killed) (actor_low a old t sound is)) in
    subst (Moved a old) (sym put)
    (goes_on_moved a old (record old { world = now; killed = killed }) t (Kill o) sound
    record {
      is = is;
      world = world;
      stage = stage;
      spares = spares;
      keep = keep;
      teardowns = refl;
      size = length-at_place old.killed a (put_slot (Some x));
      killed = λ b ne. slot_other old.killed a b (Some x) ne;
      doomed = doomed ∙ sym (ap object_kept there);
      ends = λ f. moved_none (state_of old.world.core.history) (Kill o) f refl;
    }
    refl (tears_same old a t (Kill o) sound is refl))

-- What a release leaves.

pub release_moved :
    (a o kept : ℕ) (old : Flights) (now : World) (killed : List (Option Killed)) (t : Teardown) → IsSound old → teardown_of (site_of old) a ≡ Some t → IsWorld now → stage_of now ≡ stage_then (stage_of old.world) (Gone o kept)
    → now.core.spares ≡ old.world.core.spares → OthersKeep a old.world.core now.core → value_of_slot now.doomed a ≡ None → killed ≡ at_place old.killed a (put_slot None) → Moved a old (record old { world = now; killed = killed })
release_moved a o kept old now killed t sound is world stage spares keep none put =
    let m = state_of old.world.core.history in
    let gone : slot_of (slice_get killed a) ≡ None = ap (λ (v : List (Option Killed)). slot_of (slice_get v a)) put ∙ slot_none old.killed a in
    goes_on_moved a old (record old { world = now; killed = killed }) t (Gone o kept) sound
    record {
      is = is;
      world = world;
      stage = stage;
      spares = spares;
      keep = keep;
      teardowns = refl;
      size = ap length put ∙ length-at_place old.killed a (put_slot None);
      killed = λ b ne. ap (λ (v : List (Option Killed)). slot_of (slice_get v b)) put ∙ slot_other old.killed a b None ne;
      doomed = ap object_doomed none ∙ sym (ap object_kept gone);
      ends = λ f. moved_none m (Gone o kept) f refl;
    }
    (plugged_gone m o (object_with m o)) (tears_same old a t (Gone o kept) sound is refl)
