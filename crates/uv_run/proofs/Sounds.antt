-- Sites stay sound.
use Rattle.std.proofs.Common.{◌≡◌, ℕ, List, [], ◌∷◌, ◌++◌, Option, Some, None, get_or, length, slice_get, refl, ap, sym, ◌∙◌, subst, ⊎_elim, ◌<◌}
use Rattle.std.specs.Prelude.{◌≢◌, is_some, option_map, true}
use Rattle.std.proofs.lemmas.Bool.Decides.{eqb_tells}
use Rattle.std.proofs.lemmas.Option.{slice_get-get_or}
use Rattle.uv_num.specs.Place.{at_place}
use Rattle.uv_num.proofs.PlaceLaws.{slice_get-at_place_same, slice_get-at_place_other}
use Rattle.uv_machine.specs.declared.entry.Entry.{Entry}
use Rattle.uv_machine.specs.Histories.{state_of}
use Rattle.uv_graph.specs.declared.out.Out.{Out}
use Rattle.uv_graph.specs.declared.out.Own.{Own}
use Rattle.uv_graph.specs.Owns.{own_of}
use Rattle.uv_graph.specs.Seats.{slot_of}
use Rattle.uv_graph.specs.Slots.{put_slot}
use Rattle.uv_core.specs.Beside.{OthersKeep}
use Rattle.uv_world.specs.declared.world.Doomed.{Doomed}
use Rattle.uv_world.specs.declared.world.World.{World}
use Rattle.uv_world.specs.Celled.{value_of_slot}
use Rattle.uv_world.specs.Seating.{HoldsDoomed, IsWorld, stage_of}
use Rattle.uv_world.specs.Stages.{Stage, stage_then}
use Rattle.uv_world.specs.Tearing.{object_doomed}
use Rattle.uv_run.specs.declared.flight.Killed.{Killed}
use Rattle.uv_run.specs.declared.flight.Teardown.{Teardown}
use Rattle.uv_run.specs.declared.flights.Flights.{Flights}
use Rattle.uv_run.specs.Site.{killed_of, teardown_of}
use Rattle.uv_run.specs.Sound.{EndsStay, FitsIn, HandsFit, HoldsKilled, IsSound, Moved, OthersStay, site_of}

-- Slots.

-- what an actor has in a slot stays where another's changes
pub slot_other : {X : Type 0} (xs : List (Option X)) (a b : ℕ) (now : Option X) → b ≢ a → slot_of (slice_get (at_place xs a (put_slot now)) b) ≡ slot_of (slice_get xs b)
slot_other xs a b now ne = ap slot_of (slice_get-at_place_other xs a b (put_slot now) ne)

there_put : {X : Type 0} (slot : Option (Option X)) (x : Option X) (now : Option X) → slot ≡ Some x → slot_of (option_map (put_slot now) slot) ≡ now
there_put slot x now e = ap (λ v. slot_of (option_map (put_slot now) v)) e

none_put : {X : Type 0} (slot : Option (Option X)) → slot_of (option_map (put_slot None) slot) ≡ None
none_put None = refl
none_put (Some x) = refl

-- a slot that was emptied is empty
pub slot_none : {X : Type 0} (xs : List (Option X)) (a : ℕ) → slot_of (slice_get (at_place xs a (put_slot None)) a) ≡ None
slot_none xs a = ap slot_of (slice_get-at_place_same xs a (put_slot None)) ∙ none_put (slice_get xs a)

-- a slot that is there holds what was put
pub put_there : {X : Type 0} (xs : List (Option X)) (a : ℕ) (now : Option X) → a < length xs → slot_of (slice_get (at_place xs a (put_slot now)) a) ≡ now
put_there xs a now low = ap slot_of (slice_get-at_place_same xs a (put_slot now)) ∙ there_put (slice_get xs a) (get_or xs a None) now (slice_get-get_or xs a None low)

-- Histories.

-- the history is longer by an entry
pub more_of : (old new : World) (e : Entry) → stage_of new ≡ stage_then (stage_of old) e → new.core.history ≡ old.core.history ++ e ∷ []
more_of old new e stage = ap (λ (s : Stage). s.history) stage

-- What is told of an object beside its deed.

abbrev pub object_kept : Option Killed → Option ℕ
object_kept None = None
object_kept (Some x) = Some x.object

out_kept : (k : Option Out) (out : Out) (x : Killed) → k ≡ Some out → x.object ≡ out.identity.id → HoldsKilled k (Some x)
out_kept k out x is object =
    let P : Option Out → Type 0 = λ v. HoldsKilled v (Some x) in
    subst P (sym is) object

none_kept : (k : Option Out) → k ≡ None → HoldsKilled k None
none_kept k is =
    let P : Option Out → Type 0 = λ v. HoldsKilled v None in
    subst P (sym is) tt

-- what is told of the object whose deed lies with an actor is kept
pub kept_by : (o : Own) (d : Option Doomed) (x : Option Killed) → HoldsDoomed o d → object_doomed d ≡ object_kept x → HoldsKilled o.kill x
kept_by o None None holds same = none_kept o.kill holds
kept_by o None (Some x) holds same = absurd (cc)
kept_by o (Some d) None holds same = absurd (cc)
kept_by o (Some d) (Some x) holds same =
    let object : x.object ≡ d.object = (let k : Some d.object ≡ Some x.object = same in cc) in
    out_kept o.kill holds.releasing.out x holds.releasing.out_is (object ∙ holds.object)

no_out : (k : Option Out) (x : Killed) → k ≡ None → HoldsKilled k (Some x) → ⊥
no_out None x is holds = holds
no_out (Some out) x is holds = cc

some_out : (k : Option Out) (out : Out) → k ≡ Some out → HoldsKilled k None → ⊥
some_out None out is holds = cc
some_out (Some other) out is holds = holds

same_out : (k : Option Out) (out : Out) (x : Killed) → k ≡ Some out → HoldsKilled k (Some x) → x.object ≡ out.identity.id
same_out None out x is holds = absurd (cc)
same_out (Some other) out x is holds = holds ∙ ap (λ (v : Out). v.identity.id) (let e : other ≡ out = cc in e)

doomed_from : (o : Own) (d : Option Doomed) (x : Option Killed) → HoldsDoomed o d → HoldsKilled o.kill x → object_doomed d ≡ object_kept x
doomed_from o None None doomed kept = refl
doomed_from o None (Some x) doomed kept = absurd (no_out o.kill x doomed kept)
doomed_from o (Some d) None doomed kept = absurd (some_out o.kill doomed.releasing.out doomed.releasing.out_is kept)
doomed_from o (Some d) (Some x) doomed kept =
    ap (λ (v : ℕ). Some v) (doomed.object ∙ sym (same_out o.kill doomed.releasing.out x doomed.releasing.out_is kept))

-- what is kept is of the object whose deed lies with the actor
pub doomed_is : (w : Flights) (a : ℕ) → IsSound w → object_doomed (value_of_slot w.world.doomed a) ≡ object_kept (killed_of (site_of w) a)
doomed_is w a sound = doomed_from (own_of w.world.core a) (value_of_slot w.world.doomed a) (killed_of (site_of w) a) (sound.world.seated.seats a).doomed_is (sound.fits a).kills

nothing_doomed : (d : Option Doomed) → object_doomed d ≡ None → d ≡ None
nothing_doomed None e = refl
nothing_doomed (Some d) e = absurd (cc)

-- nothing lies with an actor of whose teardown nothing is kept
pub doomed_none : (w : Flights) (a : ℕ) → IsSound w → killed_of (site_of w) a ≡ None → value_of_slot w.world.doomed a ≡ None
doomed_none w a sound none = nothing_doomed (value_of_slot w.world.doomed a) (doomed_is w a sound ∙ ap object_kept none)

-- an object that lies with an actor
pub some_doomed : (d : Option Doomed) (o : ℕ) → object_doomed d ≡ Some o → is_some d ≡ true
some_doomed None o e = absurd (cc)
some_doomed (Some d) o e = refl

pub same_object : (d : Option Doomed) (o p : ℕ) → object_doomed d ≡ Some o → object_doomed d ≡ Some p → o ≡ p
same_object d o p eo ep = let k : Some o ≡ Some p = sym eo ∙ ep in cc

doomed_tears : (o : Own) (d : Option Doomed) → HoldsDoomed o d → o.tear ≡ None → d ≡ None
doomed_tears o None holds none = refl
doomed_tears o (Some d) holds none = let k : Some holds.file ≡ None = sym holds.releasing.tearing ∙ none in absurd (cc)

-- nor with one that tears nothing
pub doomed_idle : (w : World) (a : ℕ) → IsWorld w → (own_of w.core a).tear ≡ None → value_of_slot w.doomed a ≡ None
doomed_idle w a is none = doomed_tears (own_of w.core a) (value_of_slot w.doomed a) (is.seated.seats a).doomed_is none

-- All actors.

-- the same facts of the same parts
pub fits_moved : (o o' : Own) (t t' : Option Teardown) (x x' : Option Killed) → o' ≡ o → t' ≡ t → x' ≡ x → HandsFit o t x → HandsFit o' t' x'
fits_moved o o' t t' x x' po pt px fits =
    let P1 : Own → Type 0 = λ v. HandsFit v t x in
    let P2 : Option Teardown → Type 0 = λ v. HandsFit o' v x in
    let P3 : Option Killed → Type 0 = λ v. HandsFit o' t' v in
    subst P3 (sym px) (subst P2 (sym pt) (subst P1 (sym po) fits))

-- each actor has a place in each list, as it had
pub record SameSizes (old new : Flights) : Type 0 where
  pub teardowns : length new.teardowns ≡ length old.teardowns
  pub killed : length new.killed ≡ length old.killed

-- a site at which one actor alone has done something stays sound where that actor's part fits
pub sound_after :
    (old new : Flights) (a : ℕ) → IsSound old → IsWorld new.world → SameSizes old new → OthersKeep a old.world.core new.world.core → OthersStay a old new → FitsIn new a → IsSound new
sound_after old new a sound world sizes keep stay fits = record {
  world = world;
  teardowns = sizes.teardowns ∙ sound.teardowns;
  killed = sizes.killed ∙ sound.killed;
  fits = λ b.
      let P : ℕ → Type 0 = λ v. FitsIn new v in
      ⊎_elim
      (λ same. subst P (sym same.1) fits)
      (λ apart. fits_moved (own_of old.world.core b) (own_of new.world.core b) (teardown_of (site_of old) b) (teardown_of (site_of new) b) (killed_of (site_of old) b) (killed_of (site_of new) b)
      (keep b apart.1) (stay.teardowns b apart.1) (stay.killed b apart.1) (sound.fits b))
      (eqb_tells b a);
}

-- the same of a move that takes no room
pub moved_after :
    (old new : Flights) (a : ℕ) → IsSound old → IsWorld new.world → SameSizes old new → new.world.core.spares ≡ old.world.core.spares → OthersKeep a old.world.core new.world.core → OthersStay a old new
    → EndsStay (state_of old.world.core.history) (state_of new.world.core.history) → FitsIn new a → Moved a old new
moved_after old new a sound world sizes spares keep stay ends fits =
    record { sound = sound_after old new a sound world sizes keep stay fits; spares = spares; keep = keep; stay = stay; ends = ends }

-- others have what they had where nothing beside the world has changed
pub stay_same : (old new : Flights) (a : ℕ) → new.teardowns ≡ old.teardowns → new.killed ≡ old.killed → OthersStay a old new
stay_same old new a teardowns killed = record {
  teardowns = λ b ne. ap (λ (v : List (Option Teardown)). slot_of (slice_get v b)) teardowns;
  killed = λ b ne. ap (λ (v : List (Option Killed)). slot_of (slice_get v b)) killed;
}

-- one move after another of the same actor
pub moved_then : (a : ℕ) (old mid new : Flights) → Moved a old mid → Moved a mid new → Moved a old new
moved_then a old mid new first second = record {
  sound = second.sound;
  spares = second.spares ∙ first.spares;
  keep = λ b ne. second.keep b ne ∙ first.keep b ne;
  stay = record {
    teardowns = λ b ne. second.stay.teardowns b ne ∙ first.stay.teardowns b ne;
    killed = λ b ne. second.stay.killed b ne ∙ first.stay.killed b ne;
  };
  ends = λ f is. second.ends f (first.ends f is);
}
