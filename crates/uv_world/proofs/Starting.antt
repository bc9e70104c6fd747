-- A world in which nothing has happened.
use Rattle.std.proofs.Common.{◌≡◌, ◌∙◌, ℕ, zero, suc, List, Option, None, length, refl, sym, ap, subst}
use Rattle.std.specs.Prelude.{replicate}
use Rattle.std.proofs.lemmas.List.{length-replicate}
use Rattle.uv_num.specs.declared.limits.TheConstants.{ACTOR_PLACES}
use Rattle.uv_pool.specs.declared.plain.PlainDeed.{PlainDeed}
use Rattle.uv_machine.specs.declared.call.InFlight.{InFlight}
use Rattle.uv_machine.specs.declared.entry.Entry.{Entry}
use Rattle.uv_machine.specs.Histories.{IsLegal, state_of}
use Rattle.uv_machine.specs.States.{call_of}
use Rattle.uv_graph.specs.Begins.{IsFresh}
use Rattle.uv_graph.specs.Kept.{Kept}
use Rattle.uv_graph.specs.Owns.{own_of}
use Rattle.uv_world.specs.declared.world.Doomed.{Doomed}
use Rattle.uv_world.specs.Celled.{value_of_slot}
use Rattle.uv_world.specs.Holdings.{Held}
use Rattle.uv_world.specs.Seating.{AreSeated, CallIsSeated}
use Rattle.uv_world.specs.Stages.{Stage}
use Rattle.uv_world.proofs.FirstFit.{start_call}
use Rattle.uv_world.proofs.Seating.{holds_none, none_held}

nothing_in : {X : Type 0} (n b : ℕ) → value_of_slot (replicate {A = Option X} n None) b ≡ None
nothing_in zero b = refl
nothing_in (suc n) zero = refl
nothing_in (suc n) (suc b) = nothing_in n b

pub no_call_fits : (a : ℕ) (slot : Option InFlight) (x : Option Doomed) → slot ≡ None → CallIsSeated a slot x
no_call_fits a slot x e =
    let P : Option InFlight → Type 0 = λ v. CallIsSeated a v x in
    subst P (sym e) tt

-- nothing lies with anybody
pub start_seated : (k : Kept) (r : List (Option PlainDeed)) (x : List (Option Doomed)) → IsFresh k → r ≡ replicate ACTOR_PLACES None → x ≡ replicate ACTOR_PLACES None → AreSeated k r x
start_seated k r x fresh er ex = record {
  legal = subst IsLegal (sym fresh.history) tt;
  retired_size = ap length er ∙ length-replicate {A = Option PlainDeed} ACTOR_PLACES None;
  doomed_size = ap length ex ∙ length-replicate {A = Option Doomed} ACTOR_PLACES None;
  seats = λ a.
      let none_r : value_of_slot r a ≡ None = ap (λ (v : List (Option PlainDeed)). value_of_slot v a) er ∙ nothing_in {X = PlainDeed} ACTOR_PLACES a in
      let none_x : value_of_slot x a ≡ None = ap (λ (v : List (Option Doomed)). value_of_slot v a) ex ∙ nothing_in {X = Doomed} ACTOR_PLACES a in
      let none_c : call_of (state_of k.history) a ≡ None = ap (λ (h : List Entry). call_of (state_of h) a) fresh.history ∙ start_call a in
      record {
        call = no_call_fits a (call_of (state_of k.history) a) (value_of_slot x a) none_c;
        retired_is = holds_none (own_of k a) (value_of_slot r a) none_r (fresh.outs a);
        doomed_is = none_held (own_of k a) (value_of_slot x a) none_x (fresh.kills a);
      };
}

pub stage_same : (h h' : List Entry) (g g' : Held) → h ≡ h' → g ≡ g' → (let s : Stage = record { history = h; held = g } in s) ≡ record { history = h'; held = g' }
stage_same h h' g g' eh eg =
    ap (λ (v : List Entry). (let s : Stage = record { history = v; held = g } in s)) eh ∙ ap (λ (v : Held). (let s : Stage = record { history = h'; held = v } in s)) eg
