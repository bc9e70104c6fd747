-- Where an actor has to wait for a file, another one on it can go on.
use Rattle.std.proofs.Common.{◌≡◌, ℕ, suc, ◌+◌, ◌≤◌, Bool, true, false, List, [], ◌∷◌, Option, Some, None, count_by, slice_get, refl, ap, sym, ◌∙◌, subst, arith}
use Rattle.std.specs.Prelude.{◌≢◌, ◌==◌, ◌||◌, cond, not, is_none}
use Rattle.std.proofs.lemmas.Bool.{eq-eqb}
use Rattle.std.proofs.lemmas.List.Sums.{sum_by-cons}
use Rattle.uv_num.specs.declared.limits.TheConstants.{ACTORS, CLIENTS, DRIVER}
use Rattle.uv_machine.specs.declared.call.InFlight.{InFlight}
use Rattle.uv_machine.specs.declared.file.FilePhase.TheVariants as file
use Rattle.uv_machine.specs.Histories.{IsActor, state_of}
use Rattle.uv_machine.specs.Plans.{is_call_on}
use Rattle.uv_machine.specs.States.{call_of, phase_of, is_removing}
use Rattle.uv_graph.specs.Calls.{calls_on}
use Rattle.uv_graph.specs.Owns.{is_torn_by, own_of}
use Rattle.uv_graph.specs.Seats.{TearsOnce, slot_of}
use Rattle.uv_run.specs.declared.flight.Teardown.{Teardown}
use Rattle.uv_run.specs.declared.flight.Teardown.TheVariants.{Closing, Unplugging}
use Rattle.uv_run.specs.declared.heard.Event.{Event}
use Rattle.uv_run.specs.declared.heard.Event.TheVariants as event
use Rattle.uv_run.specs.declared.flights.Flights.{Flights}
use Rattle.uv_run.specs.Progress.{AllStuck, IsStuck}
use Rattle.uv_run.specs.Site.{Site, state_at, teardown_of, torn_by}
use Rattle.uv_run.specs.Sound.{IsSound, TeardownFits, TearsOnly, site_of}
use Rattle.uv_run.specs.Turns.{awaited, is_on, is_teardown_on}
use Rattle.uv_run.proofs.CallSounds.{client_of_call}
use Rattle.uv_run.proofs.Tears.{tearing_is, torn_none, torn_some}

-- A call that is counted is somebody's.

pub record Someone (f : ℕ) (xs : List (Option InFlight)) : Type 0 where
  pub actor : ℕ
  pub call : InFlight
  pub there : slot_of (slice_get xs actor) ≡ Some call
  pub on : is_call_on f (Some call) ≡ true

one_more : (f : ℕ) (x : Option InFlight) (xs : List (Option InFlight)) → Someone f xs → Someone f (x ∷ xs)
one_more f x xs s = record { actor = suc s.actor; call = s.call; there = s.there; on = s.on }

someone_step : (f : ℕ) (x : Option InFlight) (xs : List (Option InFlight)) (v : Bool) → is_call_on f x ≡ v → ((count_by (is_call_on f) xs == 0) ≡ false → Someone f xs) → (cond v 1 0 + count_by (is_call_on f) xs == 0) ≡ false → Someone f (x ∷ xs)
someone_step f None xs true is rest e = absurd (cc)
someone_step f (Some call) xs true is rest e = record { actor = 0; call = call; there = refl; on = is }
someone_step f x xs false is rest e = one_more f x xs (rest (let k : 0 + count_by (is_call_on f) xs ≡ count_by (is_call_on f) xs = omega arith in ap (λ (n : ℕ). n == 0) (sym k) ∙ e))

pub someone : (f : ℕ) (xs : List (Option InFlight)) → (count_by (is_call_on f) xs == 0) ≡ false → Someone f xs
someone f [] e = absurd (cc)
someone f (x ∷ xs) e =
    someone_step f x xs (is_call_on f x) refl (someone f xs) (ap (λ (n : ℕ). n == 0) (sym (sum_by-cons (λ y. cond (is_call_on f y) 1 0) x xs)) ∙ e)

-- Nobody waits with a call in flight.

stuck_call : (s : Site) (b : ℕ) (call : InFlight) (e : Event) → call_of (state_at s) b ≡ Some call → IsStuck s b e → ⊥
stuck_call s b call event.Silent is stuck =
    let P : Option InFlight → Type 0 = λ v. (not (is_none v) || not (is_none (teardown_of s b))) ≡ false in
    let k : (not (is_none (Some call)) || not (is_none (teardown_of s b))) ≡ false = subst P is stuck in
    cc
stuck_call s b call event.Began is stuck = absurd stuck
stuck_call s b call (event.Stepped word refusal) is stuck = absurd stuck
stuck_call s b call (event.Torn f) is stuck = absurd stuck
stuck_call s b call (event.Killed x) is stuck = absurd stuck
stuck_call s b call (event.Went x) is stuck = absurd stuck
stuck_call s b call (event.Dissociates f) is stuck = absurd stuck
stuck_call s b call (event.Closes f) is stuck = absurd stuck
stuck_call s b call (event.NotYet f n) is stuck = let k : None ≡ Some call = sym stuck.call ∙ is in cc
stuck_call s b call (event.TornBy f by) is stuck = let k : None ≡ Some call = sym stuck.call ∙ is in cc

or_first : (p q : Bool) → p ≡ true → (p || q) ≡ true
or_first true q e = refl
or_first false q e = absurd (cc)

or_second : (p q : Bool) → q ≡ true → (p || q) ≡ true
or_second true q e = refl
or_second false q e = e

module _ (w : Flights) (sound : IsSound w) where
  client_call : (b : ℕ) (call : InFlight) → call_of (state_of w.world.core.history) b ≡ Some call → (1 ≤ b) × (b ≤ CLIENTS)
  client_call b call is = client_of_call w b call sound is

  -- not all are stuck on a file that has calls
  no_calls : (a f : ℕ) → call_of (state_of w.world.core.history) a ≡ None → AllStuck (site_of w) a f ACTORS → (calls_on (state_of w.world.core.history) f == 0) ≡ false → ⊥
  no_calls a f idle all some =
      let one = someone f (state_of w.world.core.history).calls some in
      let client = client_call one.actor one.call one.there in
      let apart : one.actor ≢ a =
      λ e. (let P : ℕ → Type 0 = λ v. call_of (state_of w.world.core.history) v ≡ Some one.call in
      let k : None ≡ Some one.call = sym idle ∙ subst P e one.there in
      cc)
      in
      let on : is_on (site_of w) f one.actor ≡ true = or_first (is_call_on f (call_of (state_of w.world.core.history) one.actor)) _ (ap (is_call_on f) one.there ∙ one.on) in
      let low : one.actor ≤ ACTORS = omega (arith, client.1) in
      let stuck = all one.actor client.0 low apart on in
      stuck_call (site_of w) one.actor one.call stuck.event one.there stuck.stuck

  -- What is torn by an actor is what its teardown is on.

  removing_is : (f b : ℕ) → phase_of (state_of w.world.core.history) f ≡ file.Tearing b → b ≡ DRIVER → is_removing (phase_of (state_of w.world.core.history) f) ≡ true
  removing_is f b is driver = ap is_removing is ∙ eq-eqb b DRIVER driver

  on_teardown :
      (b f : ℕ) (t : Option Teardown) → torn_by (state_of w.world.core.history) b ≡ Some f → phase_of (state_of w.world.core.history) f ≡ file.Tearing b → TeardownFits (own_of w.world.core b) t
      → IsActor b × (is_teardown_on (site_of w) f t ≡ true)
  on_teardown b f None tears is suits = let k : None ≡ Some f = sym suits ∙ tears in absurd (cc)
  on_teardown b f (Some (Closing g)) tears is suits =
      let P : Option ℕ → Type 0 = λ v. TearsOnly v g in
      let same : f ≡ g = subst P tears suits.3 in
      (suits.0, eq-eqb g f (sym same))
  on_teardown b f (Some (Unplugging d)) tears is suits =
      let P : ℕ → Type 0 = λ v. IsActor v in
      (subst P (sym suits.0) (omega arith, omega arith), removing_is f b is suits.0)

  silent_tears : (f : ℕ) (call : Option InFlight) (t : Option Teardown) → is_teardown_on (site_of w) f t ≡ true → (not (is_none call) || not (is_none t)) ≡ false → ⊥
  silent_tears f None None on idle = absurd (cc)
  silent_tears f None (Some t) on idle = absurd (cc)
  silent_tears f (Some call) None on idle = absurd (cc)
  silent_tears f (Some call) (Some t) on idle = absurd (cc)

  -- an actor that tears a file can't be stuck without calls on it
  tearer_stuck :
      (a b f : ℕ) (e : Event) → call_of (state_of w.world.core.history) a ≡ None → AllStuck (site_of w) a f ACTORS → torn_by (state_of w.world.core.history) b ≡ Some f → is_teardown_on (site_of w) f (teardown_of (site_of w) b) ≡ true
      → IsStuck (site_of w) b e → ⊥
  tearer_stuck a b f event.Silent idle all tears on stuck = silent_tears f (call_of (state_of w.world.core.history) b) (teardown_of (site_of w) b) on stuck
  tearer_stuck a b f event.Began idle all tears on stuck = absurd stuck
  tearer_stuck a b f (event.Stepped word refusal) idle all tears on stuck = absurd stuck
  tearer_stuck a b f (event.Torn g) idle all tears on stuck = absurd stuck
  tearer_stuck a b f (event.Killed x) idle all tears on stuck = absurd stuck
  tearer_stuck a b f (event.Went x) idle all tears on stuck = absurd stuck
  tearer_stuck a b f (event.Dissociates g) idle all tears on stuck = absurd stuck
  tearer_stuck a b f (event.Closes g) idle all tears on stuck = absurd stuck
  tearer_stuck a b f (event.NotYet g n) idle all tears on stuck =
      let same : g ≡ f = (let k : Some g ≡ Some f = sym stuck.tears ∙ tears in cc) in
      let P : ℕ → Type 0 = λ v. (calls_on (state_of w.world.core.history) v == 0) ≡ false in
      no_calls a f idle all (subst P same stuck.calls)
  tearer_stuck a b f (event.TornBy g by) idle all tears on stuck = let k : None ≡ Some f = sym stuck.none ∙ tears in absurd (cc)

  torn_of : TearsOnce (state_of w.world.core.history) → (f b : ℕ) (t : Option ℕ) → phase_of (state_of w.world.core.history) f ≡ file.Tearing b → torn_by (state_of w.world.core.history) b ≡ t → t ≡ Some f
  torn_of once f b None is tears =
      let yes : is_torn_by b (phase_of (state_of w.world.core.history) f) ≡ true = ap (is_torn_by b) is ∙ eq-eqb b b refl in
      let no : is_torn_by b (phase_of (state_of w.world.core.history) f) ≡ false = torn_none (state_of w.world.core.history) b tears f in
      absurd (cc)
  torn_of once f b (Some g) is tears =
      let other : phase_of (state_of w.world.core.history) g ≡ file.Tearing b = tearing_is b (phase_of (state_of w.world.core.history) g) (torn_some (state_of w.world.core.history) b g tears) in
      ap (λ (v : ℕ). Some v) (once b g f other is)

  -- somebody who is waited for can go on
  pub not_all_stuck : (a f : ℕ) (e : Event) → TearsOnce (state_of w.world.core.history) → IsStuck (site_of w) a e → awaited e ≡ Some f → AllStuck (site_of w) a f ACTORS → ⊥
  not_all_stuck a f event.Silent once stuck is all = absurd (cc)
  not_all_stuck a f event.Began once stuck is all = absurd stuck
  not_all_stuck a f (event.Stepped word refusal) once stuck is all = absurd stuck
  not_all_stuck a f (event.Torn g) once stuck is all = absurd stuck
  not_all_stuck a f (event.Killed x) once stuck is all = absurd stuck
  not_all_stuck a f (event.Went x) once stuck is all = absurd stuck
  not_all_stuck a f (event.Dissociates g) once stuck is all = absurd stuck
  not_all_stuck a f (event.Closes g) once stuck is all = absurd stuck
  not_all_stuck a f (event.NotYet g n) once stuck is all =
      let P : ℕ → Type 0 = λ v. (calls_on (state_of w.world.core.history) v == 0) ≡ false in
      no_calls a f stuck.call all (subst P (let k : g ≡ f = cc in k) stuck.calls)
  not_all_stuck a f (event.TornBy g by) once stuck is all =
      let same : g ≡ f = cc in
      let P : ℕ → Type 0 = λ v. phase_of (state_of w.world.core.history) v ≡ file.Tearing by in
      let torn : phase_of (state_of w.world.core.history) f ≡ file.Tearing by = subst P same stuck.torn in
      let tears : torn_by (state_of w.world.core.history) by ≡ Some f = torn_of once f by (torn_by (state_of w.world.core.history) by) torn refl in
      let on = on_teardown by f (teardown_of (site_of w) by) tears torn (sound.fits by).suits in
      let busy : is_on (site_of w) f by ≡ true = or_second (is_call_on f (call_of (state_of w.world.core.history) by)) _ on.1 in
      let other = all by on.0.0 on.0.1 stuck.other busy in
      tearer_stuck a by f other.event stuck.call all tears on.1 other.stuck
