-- The first stage fits: nothing is held, and no object is there.
use Rattle.std.proofs.Common.{◌≡◌, ◌∙◌, ℕ, zero, suc, true, false, List, ◌∷◌, Option, None, Some, map, length, refl, sym, ap}
use Rattle.std.specs.Prelude.{replicate, slice_get}
use Rattle.std.proofs.lemmas.List.{length-map, length-replicate}
use Rattle.uv_num.specs.declared.kind.Kind.{Kind}
use Rattle.uv_num.specs.declared.kind.Kind.TheVariants as kind
use Rattle.uv_num.specs.declared.limits.TheConstants.{ACTOR_PLACES, CELLS}
use Rattle.uv_machine.specs.declared.call.InFlight.{InFlight}
use Rattle.uv_machine.specs.Made.{is_live_cell}
use Rattle.uv_machine.specs.States.{call_of, start, the_call}
use Rattle.uv_region.specs.Registered.{Registered}
use Rattle.uv_world.specs.declared.cells.Cell.{Cell}
use Rattle.uv_world.specs.declared.content.Addressed.{Addressed}
use Rattle.uv_world.specs.declared.content.Belled.{Belled}
use Rattle.uv_world.specs.declared.content.Connected.{Connected}
use Rattle.uv_world.specs.declared.content.Content.{Content}
use Rattle.uv_world.specs.declared.content.Shared.{Shared}
use Rattle.uv_world.specs.declared.content.Windowed.{Windowed}
use Rattle.uv_world.specs.Celled.{empty_cell}
use Rattle.uv_world.specs.Fitting.{FirstFits, has_content, is_held, holds_under, outline, outlines}
use Rattle.uv_world.specs.Holdings.{no_contents}
use Rattle.uv_world.specs.Waiting.{waiting_of}

empty_lives : (T : Type 0) (n i g : ℕ) → holds_under g (slice_get (map outline (replicate {A = Cell T} n empty_cell)) i) ≡ false
empty_lives T zero i g = refl
empty_lives T (suc n) zero g = refl
empty_lives T (suc n) (suc i) g = empty_lives T n i g

empty_sized : (T : Type 0) (n : ℕ) → length (map outline (replicate {A = Cell T} n empty_cell)) ≡ n
empty_sized T n = length-map (replicate {A = Cell T} n empty_cell) outline ∙ length-replicate {A = Cell T} n empty_cell

none_wait : (n : ℕ) → replicate {A = Option Content} n None ≡ map waiting_of (replicate {A = Option InFlight} n None)
none_wait zero = refl
none_wait (suc n) = ap (λ (v : List (Option Content)). None ∷ v) (none_wait n)

none_held_in : (k : Kind) (i g : ℕ) → is_held no_contents k i g ≡ false
none_held_in kind.Pd i g = refl
none_held_in kind.Channel i g = empty_lives (List ℕ) CELLS i g
none_held_in kind.Cq i g = empty_lives Belled CELLS i g
none_held_in kind.Qp i g = empty_lives Connected CELLS i g
none_held_in kind.Srq i g = empty_lives Shared CELLS i g
none_held_in kind.Ah i g = empty_lives Addressed CELLS i g
none_held_in kind.Mr i g = empty_lives Registered CELLS i g
none_held_in kind.Mw i g = empty_lives Windowed CELLS i g

first_sized : (k : Kind) → has_content k ≡ true → length (outlines no_contents k) ≡ CELLS
first_sized kind.Pd c = absurd cc
first_sized kind.Channel c = empty_sized (List ℕ) CELLS
first_sized kind.Cq c = empty_sized Belled CELLS
first_sized kind.Qp c = empty_sized Connected CELLS
first_sized kind.Srq c = empty_sized Shared CELLS
first_sized kind.Ah c = empty_sized Addressed CELLS
first_sized kind.Mr c = empty_sized Registered CELLS
first_sized kind.Mw c = empty_sized Windowed CELLS

none_live : (k : Kind) (i g : ℕ) → is_live_cell start k i g ≡ false
unfolding start
none_live k i g = refl

start_waits : replicate {A = Option Content} ACTOR_PLACES None ≡ map waiting_of start.calls
unfolding start
start_waits = none_wait ACTOR_PLACES

none_called_in : (n b : ℕ) → the_call (slice_get (replicate {A = Option InFlight} n None) b) ≡ None
none_called_in zero b = refl
none_called_in (suc n) zero = refl
none_called_in (suc n) (suc b) = none_called_in n b

pub start_call : (a : ℕ) → call_of start a ≡ None
unfolding start
start_call a = none_called_in ACTOR_PLACES a

none_called : (c : ℕ) (call : InFlight) → call_of start c ≡ Some call → ⊥
none_called c call is = let both : None ≡ Some call = sym (start_call c) ∙ is in cc

pub first_fits : FirstFits
first_fits = record {
  legal = tt;
  cells = first_sized;
  waits = start_waits;
  tell = λ c call is. absurd (none_called c call is);
  fit = λ k i g c. none_held_in k i g ∙ sym (none_live k i g);
}
