-- A turn leaves less ahead.
use Rattle.std.proofs.Common.{◌≡◌, ℕ, ◌+◌, ◌<◌, ◌≤◌, Bool, true, false, Option, Some, None, refl, ap, sym, ◌∙◌, subst, arith, inl, inr, ⊎_elim}
use Rattle.std.specs.Prelude.{◌≢◌, ◌==◌, ◌||◌, not, is_none}
use Rattle.std.proofs.lemmas.Bool.{cases_lt, ne_eqb}
use Rattle.std.proofs.lemmas.Bool.Decides.{eqb_tells}
use Rattle.uv_num.specs.declared.limits.TheConstants.{ACTORS}
use Rattle.uv_machine.specs.Histories.{state_of}
use Rattle.uv_machine.specs.States.{call_of}
use Rattle.uv_graph.specs.declared.out.Own.{Own}
use Rattle.uv_graph.specs.Seats.{TearsOnce}
use Rattle.uv_machine.specs.declared.call.InFlight.{InFlight}
use Rattle.uv_run.specs.declared.flight.Teardown.{Teardown}
use Rattle.uv_run.specs.declared.heard.Event.{Event}
use Rattle.uv_run.specs.declared.heard.Event.TheVariants as event
use Rattle.uv_run.specs.declared.heard.Heard.{Heard}
use Rattle.uv_run.specs.declared.flights.Flights.{Flights}
use Rattle.uv_run.specs.Progress.{AdvancesBy, AllStuck, IsStuck, Lowers, LowersOn, LowersOne, StuckOn, ahead}
use Rattle.uv_run.specs.Runs.{StaysSound}
use Rattle.uv_run.specs.Site.{Site, Turned, event_of, is_busy, teardown_of}
use Rattle.uv_run.specs.Sound.{IsSound, Moved, site_of}
use Rattle.uv_run.specs.Turns.{awaited, is_on}
use Rattle.uv_run.proofs.Once.{idle_event}
use Rattle.uv_run.proofs.Waits.{not_all_stuck}

-- Who has nothing in flight keeps nothing in flight.

idle_other : (a : ℕ) (old new : Flights) → Moved a old new → (b : ℕ) → b ≢ a → is_busy (site_of old) b ≡ false → is_busy (site_of new) b ≡ false
idle_other a old new m b ne idle =
    let call : call_of (state_of new.world.core.history) b ≡ call_of (state_of old.world.core.history) b = ap (λ (o : Own). o.call) (m.keep b ne) in
    ap (λ (v : Option InFlight). not (is_none v) || not (is_none (teardown_of (site_of new) b))) call
    ∙ ap (λ (v : Option Teardown). not (is_none (call_of (state_of old.world.core.history) b)) || not (is_none v)) (m.stay.teardowns b ne) ∙ idle

pub event_stays : (a : ℕ) (old new : Flights) (h : Heard) → (let t : Turned = record { site = site_of new; heard = h } in t) ≡ event_of (site_of old) a → Moved a old new → StaysSound old new
event_stays a old new h turned m = record {
  sound = m.sound;
  spares = m.spares;
  idle = λ b idle.
      ⊎_elim
      (λ same. (let P : ℕ → Type 0 = λ v. is_busy (site_of old) v ≡ false in
      let was : is_busy (site_of old) a ≡ false = subst P same.1 idle in
      let site : site_of new ≡ site_of old = ap (λ (t : Turned). t.site) (turned ∙ idle_event (site_of old) a was) in
      ap (λ (s : Site). is_busy s b) site ∙ idle))
      (λ apart. idle_other a old new m b apart.1 idle)
      (eqb_tells b a);
  ends = m.ends;
}

-- Others go on.

pub lowers_none : (s : Site) (a f : ℕ) → Lowers s s a f 0
lowers_none s a f = inr (refl, λ b first last ne on. absurd (omega (arith, first, last)))

pub lowers_more : (s0 s1 s2 : Site) (a f n : ℕ) → Lowers s0 s1 a f n → LowersOne s1 s2 a f (n + 1) → Lowers s0 s2 a f (n + 1)
lowers_more s0 s1 s2 a f n (inl less) (inl more) = inl (omega (arith, less, more))
lowers_more s0 s1 s2 a f n (inl less) (inr more) = inl (let e : ahead s2 ≡ ahead s1 = ap ahead more.0 in omega (arith, less, e))
lowers_more s0 s1 s2 a f n (inr all) (inl more) = inl (let e : ahead s1 ≡ ahead s0 = ap ahead all.0 in omega (arith, more, e))
lowers_more s0 s1 s2 a f n (inr all) (inr more) =
    inr (
      more.0 ∙ all.0,
      λ b first last ne on.
          ⊎_elim
          (λ low. all.1 b first (omega (arith, low)) ne on)
          (λ high. (let here : b ≡ n + 1 = omega (arith, high, last) in
          let P : ℕ → Type 0 = λ v. v ≢ a → is_on s1 f v ≡ true → StuckOn s1 v in
          let Q : Site → Type 0 = λ v. is_on v f b ≡ true in
          let S : Site → Type 0 = λ v. StuckOn v b in
          subst S all.0 (subst P (sym here) more.1 ne (subst Q (sym all.0) on))))
          (cases_lt b (n + 1)),
    )

idle_case : (p q : Bool) → (p || not q) ≡ true → p ≡ false → q ≡ true → ⊥
idle_case true q e f g = cc
idle_case false true e f g = cc
idle_case false false e f g = cc

ne_false : (b a : ℕ) → b ≢ a → (b == a) ≡ false
ne_false b a ne = ne_eqb b a ne

pub lowers_idle : (s : Site) (a f b : ℕ) → ((b == a) || not (is_on s f b)) ≡ true → LowersOne s s a f b
lowers_idle s a f b none = inr (refl, λ ne on. absurd (idle_case (b == a) (is_on s f b) none (ne_false b a ne) on))

-- One turn.

lowers_le : (s s' : Site) (a : ℕ) (x : Option ℕ) → LowersOn s s' a x → ahead s' ≤ ahead s
lowers_le s s' a None same = let e : ahead s' ≡ ahead s = ap ahead same in omega (arith, e)
lowers_le s s' a (Some f) (inl less) = omega (arith, less)
lowers_le s s' a (Some f) (inr all) = let e : ahead s' ≡ ahead s = ap ahead all.0 in omega (arith, e)

all_stuck_at : (s s' : Site) (a f : ℕ) → s' ≡ s → AllStuck s' a f ACTORS → AllStuck s a f ACTORS
all_stuck_at s s' a f same all =
    let P : Site → Type 0 = λ v. AllStuck v a f ACTORS in
    subst P same all

module _ (old : Flights) (sound : IsSound old) (once : TearsOnce (state_of old.world.core.history)) (a : ℕ) (busy : is_busy (site_of old) a ≡ true) where
  waited : (e : Event) (f : ℕ) (s1 s2 : Site) → IsStuck (site_of old) a e → awaited e ≡ Some f → s1 ≡ site_of old → Lowers s1 s2 a f ACTORS → ahead s2 < ahead (site_of old)
  waited e f s1 s2 stuck is same (inl less) = let k : ahead s1 ≡ ahead (site_of old) = ap ahead same in omega (arith, less, k)
  waited e f s1 s2 stuck is same (inr all) = absurd (not_all_stuck old sound a f e once stuck is (all_stuck_at (site_of old) s1 a f same all.1))

  stuck_less : (e : Event) (s1 s2 : Site) → IsStuck (site_of old) a e → s1 ≡ site_of old → LowersOn s1 s2 a (awaited e) → ahead s2 < ahead (site_of old)
  stuck_less event.Silent s1 s2 stuck same lowers = let k : true ≡ false = sym busy ∙ stuck in absurd (cc)
  stuck_less event.Began s1 s2 stuck same lowers = absurd stuck
  stuck_less (event.Stepped word refusal) s1 s2 stuck same lowers = absurd stuck
  stuck_less (event.Torn f) s1 s2 stuck same lowers = absurd stuck
  stuck_less (event.Killed x) s1 s2 stuck same lowers = absurd stuck
  stuck_less (event.Went x) s1 s2 stuck same lowers = absurd stuck
  stuck_less (event.Dissociates f) s1 s2 stuck same lowers = absurd stuck
  stuck_less (event.Closes f) s1 s2 stuck same lowers = absurd stuck
  stuck_less (event.NotYet f n) s1 s2 stuck same lowers = waited (event.NotYet f n) f s1 s2 stuck refl same lowers
  stuck_less (event.TornBy f by) s1 s2 stuck same lowers = waited (event.TornBy f by) f s1 s2 stuck refl same lowers

  -- a turn of an actor that has something in flight leaves less ahead
  pub turn_lowers : (e : Event) (s1 s2 : Site) → AdvancesBy (site_of old) s1 a e → LowersOn s1 s2 a (awaited e) → ahead s2 < ahead (site_of old)
  turn_lowers e s1 s2 (inl less) lowers = let k = lowers_le s1 s2 a (awaited e) lowers in omega (arith, less, k)
  turn_lowers e s1 s2 (inr stuck) lowers = stuck_less e s1 s2 stuck.1 stuck.0 lowers
