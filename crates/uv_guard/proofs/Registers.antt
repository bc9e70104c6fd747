-- Registers, and a seat that came into a cell and left it.
use Rattle.std.proofs.Common.{◌≡◌, subst, refl, ℕ, zero, suc, List, [], ◌∷◌, set, ap, ◌∙◌}
use Rattle.std.specs.Prelude.{Some, None, slice_get}
use Rattle.uv_guard.specs.declared.cell.Entering.{Entering}
use Rattle.uv_guard.specs.declared.cell.Entering.TheVariants.{Entered, Taken}
use Rattle.uv_guard.specs.declared.register.Register.{Register}
use Rattle.uv_guard.specs.declared.view.Found.{Found}
use Rattle.uv_guard.specs.declared.view.Held.{Held}
use Rattle.uv_guard.specs.Words.{life_word, turn_word}
use Rattle.uv_guard.specs.Steps.{taking}
use Rattle.uv_guard.specs.Seated.{Seated, more_at, finds, inside, outside, given_back}
use Rattle.uv_guard.specs.Entries.{Enters}
use Rattle.uv_guard.specs.Registers.{IsLater, Adds}
use Rattle.uv_guard.proofs.Lists.{set_same}

module _ {X : Type 0} where
  pub get_set : (xs : List X) (i : ℕ) (x y : X) → slice_get xs i ≡ Some x → slice_get (set xs i y) i ≡ Some y
  get_set [] i x y e = absurd cc
  get_set (z ∷ zs) zero x y e = refl
  get_set (z ∷ zs) (suc i) x y e = get_set zs i x y e

  set_twice : (xs : List X) (i : ℕ) (x y : X) → set (set xs i x) i y ≡ set xs i y
  set_twice [] i x y = refl
  set_twice (z ∷ zs) zero x y = refl
  set_twice (z ∷ zs) (suc i) x y = ap (λ l. z ∷ l) (set_twice zs i x y)

-- the seat is as it was, but for one taking more
pub came_and_went : {T : Type 0} (s : Seated T) (i : ℕ) (h : Held T) (y : T) → slice_get s.held i ≡ Some None → outside (inside s i h) i y ≡ record s { took = more_at s.took i (taking h y) }
came_and_went s i h y out =
    ap (given_back (inside s i h) i y) (get_set s.held i None (Some h) out)
    ∙ ap (λ l. record s { held = l; took = more_at s.took i (taking h y) }) (set_twice s.held i (Some h) None ∙ set_same s.held i None out)

-- a seat that entered has what it entered with
pub came_with : (i g : ℕ) (s t : Seated Register) (answer : Entering Register) (r : Register) → answer ≡ Entered r → Enters IsLater i g s answer t → slice_get s.held i ≡ Some None
    → (ws : List Found) × (k : ℕ) × (t ≡ inside (finds s i ws) i record { number = k; generation = g; value = r }) × (slice_get t.held i ≡ Some (Some record { number = k; generation = g; value = r }))
came_with i g s t answer r is e out = let z = subst (λ a. Enters IsLater i g s a t) is e in
    (life_word z.0 ∷ turn_word z.1 ∷ [], z.2, z.3, ap (λ u. slice_get u.held i) z.3 ∙ get_set s.held i None (Some record { number = z.2; generation = g; value = r }) out)

-- a seat that found another one in the cell
pub stays_out : (i g : ℕ) (s t : Seated Register) (answer : Entering Register) (w : ℕ) → answer ≡ Taken w → Enters IsLater i g s answer t → Adds i g s (Taken w) t
stays_out i g s t answer w is e = subst (λ a. Enters IsLater i g s a t) is e
