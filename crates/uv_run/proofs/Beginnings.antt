-- Sites stay sound where something begins.
use Rattle.std.proofs.Common.{◌≡◌, ℕ, zero, suc, ◌<◌, Bool, true, false, List, [], ◌∷◌, Option, Some, None, Ok, Err, length, slice_get, unwrap_or, refl, ap, sym, ◌∙◌, subst, arith, inl, inr, ⊎_elim}
use Rattle.std.specs.Prelude.{◌≢◌, map, not, option_map, if◌then◌else◌}
use Rattle.std.proofs.lemmas.Bool.{eq-eqb}
use Rattle.std.proofs.lemmas.Bool.Decides.{eqb_tells}
use Rattle.uv_num.specs.Place.{at_place}
use Rattle.uv_num.proofs.PlaceLaws.{length-at_place, slice_get-at_place_same}
use Rattle.uv_num.specs.declared.errno.Errno.{Errno}
use Rattle.uv_num.specs.declared.errno.Errno.TheVariants.{Inval, Io}
use Rattle.uv_num.specs.declared.limits.TheConstants.{DEVICES, DRIVER, FILES}
use Rattle.uv_num.specs.declared.request.Request.{Request}
use Rattle.uv_machine.specs.declared.entry.Answer.{Answer}
use Rattle.uv_machine.specs.declared.entry.Answer.TheVariants as answer
use Rattle.uv_machine.specs.declared.entry.Entry.TheVariants.{Open, Enter, Unplug}
use Rattle.uv_machine.specs.declared.file.File.{File}
use Rattle.uv_machine.specs.declared.file.FilePhase.{FilePhase}
use Rattle.uv_machine.specs.declared.file.FilePhase.TheVariants as file
use Rattle.uv_machine.specs.declared.state.State.{State}
use Rattle.uv_machine.specs.Effects.{opened, without_plug}
use Rattle.uv_machine.specs.Histories.{IsActor, after, state_of}
use Rattle.uv_machine.specs.Outside.{MayAnswer, open_refusal}
use Rattle.uv_machine.specs.States.{call_of, is_fresh, is_unplugged, phase_in, phase_of}
use Rattle.uv_graph.specs.Conditions.{HasSpare, IsClient}
use Rattle.uv_graph.specs.Kept.{spare_of}
use Rattle.uv_graph.specs.Owns.{TearsNone, is_torn_by, none_pulled, own_of, pulled_by}
use Rattle.uv_graph.specs.Seats.{slot_of}
use Rattle.uv_graph.specs.Slots.{put_slot}
use Rattle.uv_core.specs.Beside.{OthersKeep}
use Rattle.uv_world.specs.declared.world.Doomed.{Doomed}
use Rattle.uv_world.specs.declared.world.World.{World}
use Rattle.uv_world.specs.Celled.{value_of_slot}
use Rattle.uv_world.specs.Seating.{IsAtRest, IsWorld, TakesOneSpare, stage_of}
use Rattle.uv_world.specs.Stages.{stage_then}
use Rattle.uv_world.specs.Tearing.{object_doomed, pull_of}
use Rattle.uv_run.specs.declared.flight.Teardown.{Teardown}
use Rattle.uv_run.specs.declared.flight.Teardown.TheVariants.{Closing, Unplugging}
use Rattle.uv_run.specs.declared.flights.Flights.{Flights}
use Rattle.uv_run.specs.declared.heard.Event.TheVariants as event
use Rattle.uv_run.specs.declared.heard.Heard.{Heard}
use Rattle.uv_run.specs.Site.{Turned, ends_with, goes_on, is_busy, killed_of, teardown_of, torn_by, unplugs, with_entry, with_teardown}
use Rattle.uv_run.specs.Sound.{Began, HasSpares, IsSound, Moved, TeardownFits, TearsOnly, site_of}
use Rattle.uv_run.proofs.CallSounds.{kept_same, state_more, torn_kept}
use Rattle.uv_run.proofs.Ending.{ends_entry, moved_none}
use Rattle.uv_run.proofs.MachineLaws.{files_stand_apart}
use Rattle.uv_run.proofs.Once.{idle_parts}
use Rattle.uv_run.proofs.Sites.{site_same, turned_same}
use Rattle.uv_run.proofs.Sounds.{doomed_idle, doomed_is, kept_by, more_of, moved_after, put_there, slot_other, sound_after, stay_same}
use Rattle.uv_run.proofs.Tears.{torn_stays}

-- Who has nothing in flight.

pub idle_call : (w : Flights) (a : ℕ) → is_busy (site_of w) a ≡ false → call_of (state_of w.world.core.history) a ≡ None
idle_call w a e = (idle_parts (call_of (state_of w.world.core.history) a) (teardown_of (site_of w) a) e).0

pub idle_teardown : (w : Flights) (a : ℕ) → is_busy (site_of w) a ≡ false → teardown_of (site_of w) a ≡ None
idle_teardown w a e = (idle_parts (call_of (state_of w.world.core.history) a) (teardown_of (site_of w) a) e).1

pub idle_tears : (w : Flights) (a : ℕ) → IsSound w → is_busy (site_of w) a ≡ false → TearsNone (own_of w.world.core a)
idle_tears w a sound e =
    let P : Option Teardown → Type 0 = λ v. TeardownFits (own_of w.world.core a) v in
    subst P (idle_teardown w a e) (sound.fits a).suits

-- who makes no call and tears nothing may begin something at the world
pub at_rest : (w : World) (a : ℕ) → IsWorld w → call_of (state_of w.core.history) a ≡ None → TearsNone (own_of w.core a) → IsAtRest w.core w.doomed a
at_rest w a is call none = record { call = call; doomed_none = doomed_idle w a is none }

pub idle_rests : (w : Flights) (a : ℕ) → IsSound w → is_busy (site_of w) a ≡ false → IsAtRest w.world.core w.world.doomed a
idle_rests w a sound e = at_rest w.world a sound.world (idle_call w a e) (idle_tears w a sound e)

-- there is room for a refused entry
pub has_spare : (w : Flights) (a : ℕ) → IsClient a → HasSpares 1 w.world.core → HasSpare (own_of w.world.core a)
has_spare w a client room = let k = room a client in omega (arith, k)

-- A close.

-- a site at which an actor's close has come into flight
pub closing_moved :
    (a f : ℕ) (old : Flights) (teardowns : List (Option Teardown)) → IsSound old → is_busy (site_of old) a ≡ false → IsActor a → a ≢ DRIVER → f < FILES → teardowns ≡ at_place old.teardowns a (put_slot (Some (Closing f)))
    → Moved a old (record old { teardowns = teardowns })
closing_moved a f old teardowns sound idle actor other file put =
    let new : Flights = record old { teardowns = teardowns } in
    let there : teardown_of (site_of new) a ≡ Some (Closing f) = ap (λ (ts : List (Option Teardown)). slot_of (slice_get ts a)) put ∙ put_there old.teardowns a (Some (Closing f)) (omega (arith, sound.teardowns, actor.1)) in
    let none : torn_by (state_of old.world.core.history) a ≡ None = idle_tears old a sound idle in
    let S : Option Teardown → Type 0 = λ v. TeardownFits (own_of new.world.core a) v in
    let T : Option ℕ → Type 0 = λ v. TearsOnly v f in
    moved_after old new a sound sound.world (record { teardowns = ap length put ∙ length-at_place old.teardowns a (put_slot (Some (Closing f))); killed = refl }) refl (λ b ne. refl)
    record { teardowns = λ b ne. ap (λ (ts : List (Option Teardown)). slot_of (slice_get ts b)) put ∙ slot_other old.teardowns a b (Some (Closing f)) ne; killed = λ b ne. refl }
    (λ g is. is)
    record { kills = (sound.fits a).kills; suits = subst S (sym there) (actor, other, file, subst T (sym none) tt) }

-- a move is a begin that took no room
pub moved_began : (a : ℕ) (old new : Flights) → Moved a old new → Began a old new
moved_began a old new m = record {
  sound = m.sound;
  spares = λ c. (let e : spare_of new.world.core c ≡ spare_of old.world.core c = ap (λ (v : List ℕ). unwrap_or (slice_get v c) 0) m.spares in omega (arith, e));
  keep = m.keep;
  stay = m.stay;
}

-- An unplug.

slot_true : (slot : Option Bool) → not (unwrap_or slot false) ≡ false → slot ≡ Some true
slot_true None e = absurd (cc)
slot_true (Some true) e = refl
slot_true (Some false) e = absurd (cc)

pulled_at : (slot : Option Bool) → slot ≡ Some true → option_map not (option_map without_plug slot) ≡ Some true
pulled_at slot e = ap (λ (v : Option Bool). option_map not (option_map without_plug v)) e

slice_get-mapped : {X Y : Type 0} (g : X → Y) (xs : List X) (i : ℕ) → slice_get (map g xs) i ≡ option_map g (slice_get xs i)
slice_get-mapped g [] i = refl
slice_get-mapped g (x ∷ xs) zero = refl
slice_get-mapped g (x ∷ xs) (suc i) = slice_get-mapped g xs i

-- the driver has pulled a device that was plugged in
pub pulls_after : (m : State) (d a : ℕ) → a ≡ DRIVER → is_unplugged m d ≡ false → slice_get (pulled_by (after m (Unplug d)) a) d ≡ Some true
pulls_after m d a driver plugged =
    let was : slice_get m.plugged d ≡ Some true = slot_true (slice_get m.plugged d) plugged in
    ap (λ (v : Bool). slice_get (if v then map not (after m (Unplug d)).plugged else none_pulled) d) (eq-eqb a DRIVER driver)
    ∙ slice_get-mapped not (after m (Unplug d)).plugged d ∙ ap (option_map not) (slice_get-at_place_same m.plugged d without_plug) ∙ pulled_at (slice_get m.plugged d) was

pub unplug_moved :
    (a d : ℕ) (old : Flights) (now : World) (teardowns : List (Option Teardown)) → IsSound old → a ≡ DRIVER → d < DEVICES → is_unplugged (state_of old.world.core.history) d ≡ false → IsWorld now → stage_of now ≡ stage_then (stage_of old.world) (Unplug d)
    → now.core.spares ≡ old.world.core.spares → OthersKeep a old.world.core now.core → now.doomed ≡ old.world.doomed → teardowns ≡ at_place old.teardowns a (put_slot (Some (Unplugging d))) → Moved a old (record old { world = now; teardowns = teardowns })
unplug_moved a d old now teardowns sound driver low plugged world stage spares keep doomed put =
    let new : Flights = record old { world = now; teardowns = teardowns } in
    let more = more_of old.world now (Unplug d) stage in
    let there : teardown_of (site_of new) a ≡ Some (Unplugging d) =
    ap (λ (ts : List (Option Teardown)). slot_of (slice_get ts a)) put ∙ put_there old.teardowns a (Some (Unplugging d)) (omega (arith, sound.teardowns, driver))
    in
    let S : Option Teardown → Type 0 = λ v. TeardownFits (own_of now.core a) v in
    let pulls : slice_get (pulled_by (state_of now.core.history) a) d ≡ Some true =
    ap (λ (s : State). slice_get (pulled_by s a) d) (state_more old.world.core.history now.core.history (Unplug d) more) ∙ pulls_after (state_of old.world.core.history) d a driver plugged
    in
    moved_after old new a sound world (record { teardowns = ap length put ∙ length-at_place old.teardowns a (put_slot (Some (Unplugging d))); killed = refl }) spares keep
    record { teardowns = λ b ne. ap (λ (ts : List (Option Teardown)). slot_of (slice_get ts b)) put ∙ slot_other old.teardowns a b (Some (Unplugging d)) ne; killed = λ b ne. refl }
    (ends_entry old.world.core now.core (Unplug d) more (λ f. moved_none (state_of old.world.core.history) (Unplug d) f refl))
    record {
      kills =
          kept_by (own_of now.core a) (value_of_slot now.doomed a) (killed_of (site_of old) a) (world.seated.seats a).doomed_is
          (ap (λ (v : List (Option Doomed)). object_doomed (value_of_slot v a)) doomed ∙ doomed_is old a sound);
      suits = subst S (sym there) (driver, low, pulls);
    }

pub pull_first : (v : Bool) (u : Unit {0}) → pull_of v ≡ Ok u → v ≡ false
pull_first true u e = absurd (cc)
pull_first false u e = refl

pub pull_again : (v : Bool) (x : Errno) → pull_of v ≡ Err x → (v ≡ true) × (x ≡ Io)
pull_again true x e = (refl, (let k : Err Io ≡ pull_of true = refl in cc))
pull_again false x e = absurd (cc)

pub unplug_first :
    (a d : ℕ) (old : Flights) (now : World) (teardowns : List (Option Teardown)) (heard : Heard) → is_unplugged (state_of old.world.core.history) d ≡ false → stage_of now ≡ stage_then (stage_of old.world) (Unplug d)
    → teardowns ≡ at_place old.teardowns a (put_slot (Some (Unplugging d))) → heard ≡ goes_on event.Began → (let t : Turned = record { site = site_of (record old { world = now; teardowns = teardowns }); heard = heard } in t) ≡ unplugs (site_of old) a d
unplug_first a d old now teardowns heard plugged stage put is =
    let s = site_of old in
    turned_same (site_of (record old { world = now; teardowns = teardowns })) (with_teardown (with_entry s (Unplug d)) a (Some (Unplugging d))) heard (goes_on event.Began)
    (site_same (stage_of now) (stage_then (stage_of old.world) (Unplug d)) teardowns (at_place old.teardowns a (put_slot (Some (Unplugging d)))) old.killed old.killed stage put refl) is
    ∙ sym (ap (λ (v : Bool). if v then record { site = s; heard = ends_with event.Silent (answer.Refused Io) } else record { site = with_teardown (with_entry s (Unplug d)) a (Some (Unplugging d)); heard = goes_on event.Began }) plugged)

pub unplug_again :
    (a d : ℕ) (x : Errno) (old : Flights) (now : World) (heard : Heard) → is_unplugged (state_of old.world.core.history) d ≡ true → x ≡ Io → stage_of now ≡ stage_of old.world → heard ≡ ends_with event.Silent (answer.Refused x)
    → (let t : Turned = record { site = site_of (record old { world = now }); heard = heard } in t) ≡ unplugs (site_of old) a d
unplug_again a d x old now heard unplugged io stage is =
    let s = site_of old in
    turned_same (site_of (record old { world = now })) s heard (ends_with event.Silent (answer.Refused Io)) (site_same (stage_of now) (stage_of old.world) old.teardowns old.teardowns old.killed old.killed stage refl refl)
    (is ∙ ap (λ (v : Errno). ends_with event.Silent (answer.Refused v)) io)
    ∙ sym (ap (λ (v : Bool). if v then record { site = s; heard = ends_with event.Silent (answer.Refused Io) } else record { site = with_teardown (with_entry s (Unplug d)) a (Some (Unplugging d)); heard = goes_on event.Began }) unplugged)

-- Opens and calls that enter.

pub began_by :
    (a : ℕ) (old : Flights) (now : World) → IsSound old → is_busy (site_of old) a ≡ false → IsWorld now → TakesOneSpare old.world.core now.core → OthersKeep a old.world.core now.core → now.doomed ≡ old.world.doomed
    → torn_by (state_of now.core.history) a ≡ None → Began a old (record old { world = now })
began_by a old now sound idle world spares keep doomed torn =
    let new : Flights = record old { world = now } in
    let S : Option Teardown → Type 0 = λ v. TeardownFits (own_of now.core a) v in
    record {
      sound =
          sound_after old new a sound world (record { teardowns = refl; killed = refl }) keep (stay_same old new a refl refl)
          (kept_same old new a sound world (ap (λ (v : List (Option Doomed)). object_doomed (value_of_slot v a)) doomed) refl refl (subst S (sym (idle_teardown old a idle)) torn));
      spares = spares;
      keep = keep;
      stay = stay_same old new a refl refl;
    }

-- An open leaves what its client tears.

fresh_not_torn : (b : ℕ) (p : FilePhase) → is_fresh p ≡ true → is_torn_by b p ≡ false
fresh_not_torn b file.Fresh e = refl
fresh_not_torn b file.Open e = absurd (cc)
fresh_not_torn b (file.Tearing by) e = absurd (cc)
fresh_not_torn b file.Dissociated e = absurd (cc)
fresh_not_torn b file.Closed e = absurd (cc)

opened_not_torn : (b c d : ℕ) (slot : Option File) → is_torn_by b (phase_in (option_map (opened c d) slot)) ≡ false
opened_not_torn b c d None = refl
opened_not_torn b c d (Some x) = refl

fresh_if : (v : Bool) (x y : Option Errno) → (if not v then Some Inval else x) ≡ None → v ≡ true
fresh_if true x y e = refl
fresh_if false x y e = absurd (cc)

torn_opened : (m : State) (a f d : ℕ) → open_refusal m f d ≡ None → (g : ℕ) → is_torn_by a (phase_of (after m (Open a f d answer.Ok)) g) ≡ is_torn_by a (phase_of m g)
torn_opened m a f d may g =
    ⊎_elim
    (λ same. (let P : ℕ → Type 0 = λ v. is_torn_by a (phase_of (after m (Open a f d answer.Ok)) v) ≡ is_torn_by a (phase_of m v) in
    let now : is_torn_by a (phase_of (after m (Open a f d answer.Ok)) f) ≡ false = ap (λ (v : Option File). is_torn_by a (phase_in v)) (slice_get-at_place_same m.files f (opened a d)) ∙ opened_not_torn a a d (slice_get m.files f) in
    let was : is_torn_by a (phase_of m f) ≡ false = fresh_not_torn a (phase_of m f) (fresh_if (is_fresh (phase_of m f)) _ None may) in
    subst P same.1 (now ∙ sym was)))
    (λ apart. ap (is_torn_by a) (files_stand_apart m (Open a f d answer.Ok) g apart.0))
    (eqb_tells f g)

torn_answered : (m : State) (a f d : ℕ) (r : Option Errno) (x : Answer) → open_refusal m f d ≡ r → MayAnswer r x → torn_by (after m (Open a f d x)) a ≡ torn_by m a
torn_answered m a f d (Some e) x is may = ap (λ (v : Answer). torn_by (after m (Open a f d v)) a) may
torn_answered m a f d None x is (inl may) = ap (λ (v : Answer). torn_by (after m (Open a f d v)) a) may ∙ torn_stays m (after m (Open a f d answer.Ok)) a (torn_opened m a f d is)
torn_answered m a f d None x is (inr may) = ap (λ (v : Answer). torn_by (after m (Open a f d v)) a) may

pub open_began :
    (a f d : ℕ) (x : Answer) (old : Flights) (now : World) → IsSound old → is_busy (site_of old) a ≡ false → MayAnswer (open_refusal (state_of old.world.core.history) f d) x → stage_of now ≡ stage_then (stage_of old.world) (Open a f d x)
    → TakesOneSpare old.world.core now.core → OthersKeep a old.world.core now.core → now.doomed ≡ old.world.doomed → IsWorld now → Began a old (record old { world = now })
open_began a f d x old now sound idle may stage spares keep doomed world =
    let m = state_of old.world.core.history in
    began_by a old now sound idle world spares keep doomed
    (ap (λ (s : State). torn_by s a) (state_more old.world.core.history now.core.history (Open a f d x) (more_of old.world now (Open a f d x) stage))
    ∙ (torn_answered m a f d (open_refusal m f d) x refl may ∙ idle_tears old a sound idle))

pub enter_began :
    (a f : ℕ) (request : Request) (x : Answer) (old : Flights) (now : World) → IsSound old → is_busy (site_of old) a ≡ false → stage_of now ≡ stage_then (stage_of old.world) (Enter a f request x)
    → TakesOneSpare old.world.core now.core → OthersKeep a old.world.core now.core → now.doomed ≡ old.world.doomed → IsWorld now → Began a old (record old { world = now })
enter_began a f request x old now sound idle stage spares keep doomed world =
    began_by a old now sound idle world spares keep doomed
    (torn_kept old.world.core.history now.core.history (Enter a f request x) a (more_of old.world now (Enter a f request x) stage) refl ∙ idle_tears old a sound idle)
