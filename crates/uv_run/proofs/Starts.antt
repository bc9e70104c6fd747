-- The world in which nothing has happened.
use Rattle.std.proofs.Common.{◌≡◌, false, ℕ, zero, suc, List, Option, Some, None, length, slice_get, refl, ap, sym, ◌∙◌, subst}
use Rattle.std.specs.Prelude.{◌||◌, is_none, not, replicate}
use Rattle.uv_num.specs.declared.limits.TheConstants.{ACTOR_PLACES}
use Rattle.uv_machine.specs.declared.call.InFlight.{InFlight}
use Rattle.uv_machine.specs.declared.state.State.{State}
use Rattle.uv_machine.specs.Histories.{state_of}
use Rattle.uv_machine.specs.States.{call_of, start, the_call}
use Rattle.uv_graph.specs.declared.out.Out.{Out}
use Rattle.uv_graph.specs.declared.out.Own.{Own}
use Rattle.uv_graph.specs.Kept.{kill_of}
use Rattle.uv_graph.specs.Owns.{own_of}
use Rattle.uv_graph.specs.Seats.{slot_of}
use Rattle.uv_world.specs.declared.world.Doomed.{Doomed}
use Rattle.uv_world.specs.Celled.{value_of_slot}
use Rattle.uv_world.specs.Seating.{HoldsDoomed, IsWorld, stage_of}
use Rattle.uv_world.specs.Stages.{Stage, first_stage}
use Rattle.uv_run.specs.declared.flight.Killed.{Killed}
use Rattle.uv_run.specs.declared.flight.Teardown.{Teardown}
use Rattle.uv_run.specs.declared.flights.Flights.{Flights}
use Rattle.uv_run.specs.Site.{is_busy, killed_of, start_site, teardown_of, torn_by}
use Rattle.uv_run.specs.Sound.{HoldsKilled, IsSound, TeardownFits, site_of}
use Rattle.uv_run.proofs.Sites.{site_with}

nothing_in : {X : Type 0} (n b : ℕ) → slot_of (slice_get (replicate {A = Option X} n None) b) ≡ None
nothing_in zero b = refl
nothing_in (suc n) zero = refl
nothing_in (suc n) (suc b) = nothing_in n b

none_called : (n b : ℕ) → the_call (slice_get (replicate {A = Option InFlight} n None) b) ≡ None
none_called zero b = refl
none_called (suc n) zero = refl
none_called (suc n) (suc b) = none_called n b

start_call : (a : ℕ) → call_of start a ≡ None
unfolding start
start_call a = none_called ACTOR_PLACES a

start_torn : (a : ℕ) → torn_by start a ≡ None
unfolding start
start_torn a = refl

no_doom : (o : Own) (d : Option Doomed) → HoldsDoomed o d → o.tear ≡ None → o.kill ≡ None
no_doom o None holds none = holds
no_doom o (Some d) holds none = let k : Some holds.file ≡ None = sym holds.releasing.tearing ∙ none in absurd (cc)

start_kept : (k : Option Out) (x : Option Killed) → k ≡ None → x ≡ None → HoldsKilled k x
start_kept None None ek ex = tt
start_kept None (Some x) ek ex = absurd (cc)
start_kept (Some out) x ek ex = absurd (cc)

pub start_sound : (w : Flights) → IsWorld w.world → stage_of w.world ≡ first_stage → w.teardowns ≡ replicate ACTOR_PLACES None → w.killed ≡ replicate ACTOR_PLACES None → IsSound w
start_sound w world stage teardowns killed =
    let now : state_of w.world.core.history ≡ start = ap (λ (s : Stage). state_of s.history) stage in
    record {
      world = world;
      teardowns = ap length teardowns;
      killed = ap length killed;
      fits = λ a.
          let gone : teardown_of (site_of w) a ≡ None = ap (λ (v : List (Option Teardown)). slot_of (slice_get v a)) teardowns ∙ nothing_in ACTOR_PLACES a in
          let left : killed_of (site_of w) a ≡ None = ap (λ (v : List (Option Killed)). slot_of (slice_get v a)) killed ∙ nothing_in ACTOR_PLACES a in
          let torn : torn_by (state_of w.world.core.history) a ≡ None = ap (λ (s : State). torn_by s a) now ∙ start_torn a in
          let S : Option Teardown → Type 0 = λ v. TeardownFits (own_of w.world.core a) v in
          record {
            kills = start_kept (kill_of w.world.core a) (killed_of (site_of w) a) (no_doom (own_of w.world.core a) (value_of_slot w.world.doomed a) (world.seated.seats a).doomed_is torn) left;
            suits = subst S (sym gone) torn;
          };
    }

pub start_is : (s : Stage) → s ≡ first_stage → site_with s (replicate ACTOR_PLACES None) (replicate ACTOR_PLACES None) ≡ start_site
unfolding start_site
start_is s stage = ap (λ (v : Stage). site_with v (replicate ACTOR_PLACES None) (replicate ACTOR_PLACES None)) stage

not_busy : (call : Option InFlight) (t : Option Teardown) → call ≡ None → t ≡ None → (not (is_none call) || not (is_none t)) ≡ false
not_busy None None e f = refl
not_busy None (Some t) e f = absurd (cc)
not_busy (Some call) t e f = absurd (cc)

-- before the first line nothing is in flight
pub start_idle : (a : ℕ) → is_busy start_site a ≡ false
unfolding start_site
start_idle a = not_busy (call_of start a) (slot_of (slice_get (replicate ACTOR_PLACES None) a)) (start_call a) (nothing_in ACTOR_PLACES a)
