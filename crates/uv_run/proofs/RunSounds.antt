-- Runs stay sound over lines.
use Rattle.std.proofs.Common.{◌≡◌, ℕ, ◌+◌, false, List, [], ◌∷◌, ◌++◌, Option, Some, Ok, Err, slice_get, take, unwrap_or, refl, ap, sym, ◌∙◌, subst, arith, ⊎_elim}
use Rattle.std.specs.Prelude.{◌≢◌, ◌||◌, All, OnOk, Result, is_none, not}
use Rattle.std.proofs.lemmas.Bool.{cases_lt}
use Rattle.std.proofs.lemmas.Bool.Decides.{eqb_tells}
use Rattle.std.proofs.lemmas.List.{take_more}
use Rattle.std.proofs.lemmas.List.Elements.{All-append, All-cons}
use Rattle.std.proofs.lemmas.Option.{get_or_from_slice_get, slice_get_within}
use Rattle.uv_num.specs.declared.limits.TheConstants.{ENDER}
use Rattle.uv_machine.specs.declared.call.InFlight.{InFlight}
use Rattle.uv_machine.specs.Histories.{IsActor, state_of}
use Rattle.uv_machine.specs.States.{call_of}
use Rattle.uv_graph.specs.declared.out.Own.{Own}
use Rattle.uv_graph.specs.Kept.{Kept, spare_of}
use Rattle.uv_world.specs.Seating.{TakesOneSpare}
use Rattle.uv_script.specs.declared.form.Deed.{Deed}
use Rattle.uv_script.specs.declared.form.Deed.TheVariants as deed
use Rattle.uv_script.specs.declared.form.Line.{Line}
use Rattle.uv_script.specs.Ranges.{IsInRange, MayDo}
use Rattle.uv_run.specs.declared.flight.Task.{Task}
use Rattle.uv_run.specs.declared.flight.Task.TheVariants as task
use Rattle.uv_run.specs.declared.flight.Teardown.{Teardown}
use Rattle.uv_run.specs.declared.reply.Telling.{Telling}
use Rattle.uv_run.specs.declared.flights.Flights.{Flights}
use Rattle.uv_run.specs.Progress.{HasRoomFor}
use Rattle.uv_run.specs.Ranges.{IsInReach}
use Rattle.uv_run.specs.Runs.{GoesSound, StaysIdle, StaysSound}
use Rattle.uv_run.specs.Ends.{AreIdle}
use Rattle.uv_run.specs.Site.{Site, Turned, is_busy, teardown_of}
use Rattle.uv_run.specs.Sound.{Began, IsSound, Moved, site_of}
use Rattle.uv_run.specs.Stand.{Stand, after_turned, with_begun}
use Rattle.uv_run.specs.Turns.{after_waiting, awaited, others_if}

-- Answers that hold where memory was there.

pub on_ok : {A E : Type 0} (r : Result A E) (X Y : Type 0) → (X → Y) → OnOk r X → OnOk r Y
on_ok (Ok a) X Y f x = f x
on_ok (Err e) X Y f x = x

pub on_both : {A E : Type 0} (r : Result A E) (X Y Z : Type 0) → (X → Y → Z) → OnOk r X → OnOk r Y → OnOk r Z
on_both (Ok a) X Y Z f x y = f x y
on_both (Err e) X Y Z f x y = x

-- Steps one after the other.

pub stays_sound : (w : Flights) → IsSound w → StaysSound w w
stays_sound w sound = record { sound = sound; spares = refl; idle = λ b is. is; ends = λ f is. is }

pub stays_then : (old mid new : Flights) → StaysSound old mid → StaysSound mid new → StaysSound old new
stays_then old mid new first second =
    record { sound = second.sound; spares = second.spares ∙ first.spares; idle = λ b is. second.idle b (first.idle b is); ends = λ f is. second.ends f (first.ends f is) }

spares_same : (old new : Kept) → new.spares ≡ old.spares → TakesOneSpare old new
spares_same old new same c = let e : spare_of new c ≡ spare_of old c = ap (λ (v : List ℕ). unwrap_or (slice_get v c) 0) same in omega (arith, e)

pub stays_goes : (old new : Flights) → StaysSound old new → GoesSound old new
stays_goes old new s = record { sound = s.sound; spares = spares_same old.world.core new.world.core s.spares; ender = s.idle ENDER }

pub goes_then : (old mid new : Flights) → GoesSound old mid → StaysSound mid new → GoesSound old new
goes_then old mid new first second = record {
  sound = second.sound;
  spares = λ c. (let e : spare_of new.world.core c ≡ spare_of mid.world.core c = ap (λ (v : List ℕ). unwrap_or (slice_get v c) 0) second.spares in
      let k = first.spares c in
      omega (arith, e, k));
  ender = λ is. second.idle ENDER (first.ender is);
}

pub then_goes : (old mid new : Flights) → StaysSound old mid → GoesSound mid new → GoesSound old new
then_goes old mid new first second = record {
  sound = second.sound;
  spares = λ c. (let e : spare_of mid.world.core c ≡ spare_of old.world.core c = ap (λ (v : List ℕ). unwrap_or (slice_get v c) 0) first.spares in
      let k = second.spares c in
      omega (arith, e, k));
  ender = λ is. second.ender (first.idle ENDER is);
}

-- Begins.

idle_began : (a : ℕ) (old new : Flights) → Began a old new → (b : ℕ) → b ≢ a → is_busy (site_of old) b ≡ false → is_busy (site_of new) b ≡ false
idle_began a old new m b ne idle =
    let call : call_of (state_of new.world.core.history) b ≡ call_of (state_of old.world.core.history) b = ap (λ (o : Own). o.call) (m.keep b ne) in
    ap (λ (v : Option InFlight). not (is_none v) || not (is_none (teardown_of (site_of new) b))) call
    ∙ ap (λ (v : Option Teardown). not (is_none (call_of (state_of old.world.core.history) b)) || not (is_none v)) (m.stay.teardowns b ne) ∙ idle

reach_not : (a : ℕ) (t : Task) → IsInReach a t → ENDER ≢ a
reach_not a (task.Opens f d) reach e = omega (arith, e, reach.0.1)
reach_not a (task.Calls f request) reach e = omega (arith, e, reach.0.1)
reach_not a (task.Closes f) reach e = omega (arith, e, reach.0.1)
reach_not a (task.Unplugs d) reach e = omega (arith, e, reach.0)

pub began_goes : (a : ℕ) (t : Task) (old new : Flights) → IsInReach a t → Began a old new → GoesSound old new
began_goes a t old new reach b = record { sound = b.sound; spares = b.spares; ender = λ is. idle_began a old new b ENDER (reach_not a t reach) is }

-- the same from a world that is another's
pub began_from : (a : ℕ) (t : Task) (old was new now : Flights) → IsInReach a t → was ≡ old → Began a was new → now ≡ new → GoesSound old now
began_from a t old was new now reach first b same =
    let P : Flights → Type 0 = λ v. GoesSound v now in
    let Q : Flights → Type 0 = λ v. GoesSound was v in
    subst P first (subst Q (sym same) (began_goes a t was new reach b))

-- A close that has run to its end.

idle_moved : (a : ℕ) (old new : Flights) → Moved a old new → (b : ℕ) → b ≢ a → is_busy (site_of old) b ≡ false → is_busy (site_of new) b ≡ false
idle_moved a old new m b ne idle =
    let call : call_of (state_of new.world.core.history) b ≡ call_of (state_of old.world.core.history) b = ap (λ (o : Own). o.call) (m.keep b ne) in
    ap (λ (v : Option InFlight). not (is_none v) || not (is_none (teardown_of (site_of new) b))) call
    ∙ ap (λ (v : Option Teardown). not (is_none (call_of (state_of old.world.core.history) b)) || not (is_none v)) (m.stay.teardowns b ne) ∙ idle

pub close_stays : (a : ℕ) (old mid new : Flights) → Moved a old mid → StaysSound mid new → is_busy (site_of new) a ≡ false → StaysSound old new
close_stays a old mid new m s ended = record {
  sound = s.sound;
  spares = s.spares ∙ m.spares;
  idle = λ b is.
      (let P : ℕ → Type 0 = λ v. is_busy (site_of new) v ≡ false in
      ⊎_elim (λ same. subst P (sym same.1) ended) (λ apart. s.idle b (idle_moved a old mid m b apart.1 is)) (eqb_tells b a));
  ends = λ f is. s.ends f (m.ends f is);
}

-- Lines.

-- one more line is played
pub no_ranges : All IsInRange []
no_ranges k d low = absurd (omega (arith, low))

one_range : (l : Line) → IsInRange l → All IsInRange (l ∷ [])
one_range l range = All-cons IsInRange l [] range no_ranges

pub ranges_more : (lines : List Line) (place : ℕ) (l : Line) → slice_get lines place ≡ Some l → IsInRange l → All IsInRange (take place lines) → All IsInRange (take (place + 1) lines)
ranges_more lines place l at range all =
    let front : take (place + 1) lines ≡ take place lines ++ l ∷ [] =
    take_more lines place l (slice_get_within lines place l at) ∙ ap (λ v. take place lines ++ v ∷ []) (get_or_from_slice_get lines place l l at)
    in
    subst (All IsInRange) (sym front) (All-append IsInRange (take place lines) (l ∷ []) all (one_range l range))

pub room_more : (lines : List Line) (place : ℕ) (old new : Kept) → HasRoomFor lines place old → TakesOneSpare old new → HasRoomFor lines (place + 1) new
room_more lines place old new room one c client = let a = room c client in let b = one c in omega (arith, a, b)

-- who may do something is an actor
pub doer : (a : ℕ) (d : Deed) → MayDo a d → IsActor a
doer a (deed.Open f e) may = (may.0.client.first, omega (arith, may.0.client.last))
doer a (deed.Call f verb) may = (may.client.first, omega (arith, may.client.last))
doer a (deed.Refused e) may = (may.first, omega (arith, may.last))
doer a (deed.Close f) may = (may.client.first, omega (arith, may.client.last))
doer a (deed.Unplug d) may = let P : ℕ → Type 0 = λ v. IsActor v in subst P (sym may.0) (omega arith, omega arith)

-- One more actor has nothing in flight.
pub idle_more : (s s' : Site) (n : ℕ) → AreIdle s n → StaysIdle s s' → is_busy s' (n + 1) ≡ false → AreIdle s' (n + 1)
idle_more s s' n idle stays ended b first last =
    ⊎_elim
    (λ low. stays b (idle b first (omega (arith, low))))
    (λ high. (let P : ℕ → Type 0 = λ v. is_busy s' v ≡ false in
    subst P (let e : n + 1 ≡ b = omega (arith, high, last) in e) ended))
    (cases_lt b (n + 1))

pub idle_at : (s : Site) (n k : ℕ) → n ≡ k → AreIdle s n → AreIdle s k
idle_at s n k same idle = let P : ℕ → Type 0 = λ v. AreIdle s v in subst P same idle

-- What stands after a begin that had to wait.
pub waits_from :
    (m : Telling) (s b told go : Stand) (a n : ℕ) (t u : Turned) (x : Option ℕ) → b ≡ with_begun s a n → t ≡ u → told ≡ after_turned m b a n t → x ≡ awaited t.heard.event → go ≡ others_if x a told
    → go ≡ after_waiting m (with_begun s a n) a n u
waits_from m s b told go a n t u x begun turned tells waits goes =
    goes ∙ ap (λ (v : Option ℕ). others_if v a told) waits ∙ ap (others_if (awaited t.heard.event) a) tells
    ∙ ap (λ (v : Stand). others_if (awaited t.heard.event) a (after_turned m v a n t)) begun
    ∙ ap (λ (v : Turned). after_waiting m (with_begun s a n) a n v) turned
