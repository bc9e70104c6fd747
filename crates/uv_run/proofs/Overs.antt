-- As a script has ended, no call is in flight and each file is over.
use Rattle.std.proofs.Common.{◌≡◌, ℕ, ◌+◌, ◌<◌, ◌≤◌, true, false, Option, Some, None, slice_get, refl, ap, sym, ◌∙◌, subst, arith, ⊎_elim}
use Rattle.std.specs.Prelude.{option_map}
use Rattle.std.proofs.lemmas.Bool.{cases_lt, eq-eqb}
use Rattle.std.proofs.lemmas.Option.{slice_get_within}
use Rattle.uv_num.proofs.PlaceLaws.{slice_get-at_place_same}
use Rattle.uv_num.specs.declared.limits.TheConstants.{ENDER, FILES}
use Rattle.uv_machine.specs.declared.call.InFlight.{InFlight}
use Rattle.uv_machine.specs.declared.entry.Entry.TheVariants.{Tear}
use Rattle.uv_machine.specs.declared.file.File.{File}
use Rattle.uv_machine.specs.declared.file.FilePhase.{FilePhase}
use Rattle.uv_machine.specs.declared.file.FilePhase.TheVariants as file
use Rattle.uv_machine.specs.declared.state.State.{State}
use Rattle.uv_machine.specs.Effects.{in_phase}
use Rattle.uv_machine.specs.Filed.{is_over}
use Rattle.uv_machine.specs.Files.{AreOver}
use Rattle.uv_machine.specs.Histories.{IsActor, after, state_of}
use Rattle.uv_machine.specs.Laws.{IsIdle}
use Rattle.uv_machine.specs.States.{call_of, is_callable, phase_in, phase_of}
use Rattle.uv_machine.proofs.Reaching.{Reached-state_of}
use Rattle.uv_graph.specs.declared.out.Own.{Own}
use Rattle.uv_graph.specs.Owns.{is_torn_by, own_of}
use Rattle.uv_run.specs.declared.flight.Teardown.{Teardown}
use Rattle.uv_run.specs.declared.flight.Teardown.TheVariants.{Closing, Unplugging}
use Rattle.uv_run.specs.declared.flights.Flights.{Flights}
use Rattle.uv_run.specs.Ends.{AreIdle}
use Rattle.uv_run.specs.Runs.{StaysIdle}
use Rattle.uv_run.specs.Site.{Site, close_turn, closes, state_at, teardown_of, torn_by, with_teardown}
use Rattle.uv_run.specs.Sound.{EndsStay, IsSound, TeardownFits, is_ending, site_of}
use Rattle.uv_run.proofs.Beginnings.{idle_call, idle_teardown}
use Rattle.uv_run.proofs.CallSounds.{client_of_call}
use Rattle.uv_run.proofs.MachineLaws.{state_goes_on}
use Rattle.uv_run.proofs.Tears.{torn_none}

pub idle_stays : (s s' : Site) (n : ℕ) → AreIdle s n → StaysIdle s s' → AreIdle s' n
idle_stays s s' n idle stays b first last = stays b (idle b first last)

pub ending_more : (m m' : State) (n : ℕ) → ((g : ℕ) → g < n → is_ending (phase_of m g) ≡ true) → EndsStay m m' → is_ending (phase_of m' n) ≡ true → (g : ℕ) → g < n + 1 → is_ending (phase_of m' g) ≡ true
ending_more m m' n before stays now g low =
    ⊎_elim
    (λ less. stays g (before g less))
    (λ high. (let P : ℕ → Type 0 = λ v. is_ending (phase_of m' v) ≡ true in
    subst P (let e : n ≡ g = omega (arith, high, low) in e) now))
    (cases_lt g n)

module _ (w : Flights) (sound : IsSound w) (idle : AreIdle (site_of w) ENDER) where
  no_call : (b : ℕ) (slot : Option InFlight) → call_of (state_of w.world.core.history) b ≡ slot → slot ≡ None
  no_call b None is = refl
  no_call b (Some call) is =
      let client = client_of_call w b call sound is in
      let low : b ≤ ENDER = omega (arith, client.1) in
      sym is ∙ idle_call w b (idle b client.0 low)

  -- no call is in flight
  pub all_idle : IsIdle (state_of w.world.core.history)
  all_idle b = no_call b (call_of (state_of w.world.core.history) b) refl

  actor_of : (o : Own) (t : Teardown) → TeardownFits o (Some t) → IsActor o.actor
  actor_of o (Closing f) suits = suits.0
  actor_of o (Unplugging d) suits = let P : ℕ → Type 0 = λ v. IsActor v in subst P (sym suits.0) (omega arith, omega arith)

  tears_none : (b : ℕ) (t : Option Teardown) → teardown_of (site_of w) b ≡ t → TeardownFits (own_of w.world.core b) t → torn_by (state_of w.world.core.history) b ≡ None
  tears_none b None is suits = suits
  tears_none b (Some t) is suits =
      let actor = actor_of (own_of w.world.core b) t suits in
      let low : b ≤ ENDER = omega (arith, actor.1) in
      let none : teardown_of (site_of w) b ≡ None = idle_teardown w b (idle b actor.0 low) in
      let k : None ≡ Some t = sym none ∙ is in
      absurd (cc)

  -- no file is being torn
  not_torn : (f b : ℕ) → phase_of (state_of w.world.core.history) f ≡ file.Tearing b → ⊥
  not_torn f b is =
      let none = tears_none b (teardown_of (site_of w) b) refl (sound.fits b).suits in
      let no : is_torn_by b (phase_of (state_of w.world.core.history) f) ≡ false = torn_none (state_of w.world.core.history) b none f in
      let yes : is_torn_by b (phase_of (state_of w.world.core.history) f) ≡ true = ap (is_torn_by b) is ∙ eq-eqb b b refl in
      cc

  over_of : (f : ℕ) (p : FilePhase) → phase_of (state_of w.world.core.history) f ≡ p → is_ending p ≡ true → is_over p ≡ true
  over_of f file.Fresh is ends = refl
  over_of f file.Open is ends = absurd (cc)
  over_of f (file.Tearing by) is ends = absurd (not_torn f by is)
  over_of f file.Dissociated is ends = absurd (cc)
  over_of f file.Closed is ends = refl

  ending_of : (f : ℕ) (p : FilePhase) → phase_of (state_of w.world.core.history) f ≡ p → is_callable p ≡ false → is_ending p ≡ true
  ending_of f file.Fresh is none = refl
  ending_of f file.Open is none = absurd (cc)
  ending_of f (file.Tearing by) is none = absurd (not_torn f by is)
  ending_of f file.Dissociated is none = absurd (cc)
  ending_of f file.Closed is none = refl

  -- a file that calls may not enter is over
  pub not_callable : (f : ℕ) → is_callable (phase_of (state_of w.world.core.history) f) ≡ false → is_ending (phase_of (state_of w.world.core.history) f) ≡ true
  not_callable f none = ending_of f (phase_of (state_of w.world.core.history) f) refl none

  over_at : (f : ℕ) (slot : Option File) → slice_get (state_of w.world.core.history).files f ≡ slot → ((g : ℕ) → g < FILES → is_ending (phase_of (state_of w.world.core.history) g) ≡ true) → is_over (phase_in slot) ≡ true
  over_at f None is ends = refl
  over_at f (Some x) is ends =
      let low = slice_get_within (state_of w.world.core.history).files f x is in
      let size = (Reached-state_of w.world.core.history sound.world.seated.legal).files in
      let phase : phase_of (state_of w.world.core.history) f ≡ x.phase = ap phase_in is in
      over_of f x.phase phase (sym (ap is_ending phase) ∙ ends f (omega (arith, low, size)))

  -- each file is over where those with numbers are
  pub all_over : ((g : ℕ) → g < FILES → is_ending (phase_of (state_of w.world.core.history) g) ≡ true) → AreOver (state_of w.world.core.history)
  all_over ends f = over_at f (slice_get (state_of w.world.core.history).files f) refl ends

-- What a close by the end of the script leaves of the file.

torn_ending : (slot : Option File) → is_ending (phase_in (option_map (in_phase (file.Tearing ENDER)) slot)) ≡ true
torn_ending None = refl
torn_ending (Some x) = refl

tear_ending : (s : Site) (f : ℕ) → is_ending (phase_of (after (state_at s) (Tear f ENDER)) f) ≡ true
tear_ending s f = ap (λ (v : Option File). is_ending (phase_in v)) (slice_get-at_place_same (state_at s).files f (in_phase (file.Tearing ENDER))) ∙ torn_ending (slice_get (state_at s).files f)

closes_at : (s t : Site) (f : ℕ) (p : FilePhase) → t.history ≡ s.history → is_callable p ≡ true → is_ending (phase_of (state_at (close_turn t ENDER f p).site) f) ≡ true
closes_at s t f file.Fresh same may = absurd (cc)
closes_at s t f file.Open same may = ap (λ (m : State). is_ending (phase_of m f)) (state_goes_on t.history (Tear f ENDER)) ∙ tear_ending t f
closes_at s t f (file.Tearing by) same may = absurd (cc)
closes_at s t f file.Dissociated same may = ap (λ (m : State). is_ending (phase_of m f)) (state_goes_on t.history (Tear f ENDER)) ∙ tear_ending t f
closes_at s t f file.Closed same may = absurd (cc)

pub closes_ending : (s : Site) (f : ℕ) → is_callable (phase_of (state_at s) f) ≡ true → is_ending (phase_of (state_at (closes s ENDER f).site) f) ≡ true
closes_ending s f may = closes_at s (with_teardown s ENDER (Some (Closing f))) f (phase_of (state_at s) f) refl may
