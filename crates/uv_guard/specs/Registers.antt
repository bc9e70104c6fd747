-- A register that is only added to.
use Rattle.std.proofs.Common.{refl, ◌∙◌}
use Rattle.std.proofs.Math.Nat.{le_refl, le_trans}
use Rattle.std.specs.Prelude.{◌≡◌, ℕ, ◌+◌, ◌≤◌, List, [], ◌∷◌, min}
use Rattle.uv_guard.specs.declared.register.Register.{Register}
use Rattle.uv_guard.specs.declared.cell.Entering.{Entering}
use Rattle.uv_guard.specs.declared.cell.Entering.TheVariants.{Entered, Dead, Taken}
use Rattle.uv_guard.specs.declared.view.Found.{Found}
use Rattle.uv_guard.specs.declared.view.Held.{Held}
use Rattle.uv_guard.specs.Steps.{taking}
use Rattle.uv_guard.specs.Words.{life_word, IsLive, IsBusy}
use Rattle.uv_guard.specs.Seated.{Seated, finds, more_at}

abbrev pub name_of : Register → ℕ
name_of r = r.name

-- the same register, which hasn't fallen
abbrev pub IsLater : Register → Register → Type 0
IsLater x y = (y.name ≡ x.name) × (x.value ≤ y.value)

-- it is later than itself, and what is later than a later one is later
pub later_same : (x : Register) → IsLater x x
later_same x = (refl, le_refl x.value)

pub later_further : (x y z : Register) → IsLater x y → IsLater y z → IsLater x z
later_further x y z p q = (q.0 ∙ p.0, le_trans p.1 q.1)

-- the register with one more; the largest number stays
abbrev pub more : Register → Register
more r = record { name = r.name; value = min (r.value + 1) 18446744073709551615 }

-- The seat has one taking more, by which the register has one more, and the answer is what it is then; or the seat didn't come in.
abbrev pub Adds : ℕ → ℕ → Seated Register → Entering ℕ → Seated Register → Type 0
Adds i g s (Entered n) t = (ws : List Found) × (h : Held Register) × (h.generation ≡ g) × (n ≡ (more h.value).value) × (t ≡ record (finds s i ws) { took = more_at s.took i (taking h (more h.value)) })
Adds i g s (Dead w) t = (t ≡ finds s i (life_word w ∷ [])) × ¬ IsLive g w
Adds i g s (Taken w) t = (ws : List Found) × (t ≡ finds s i ws) × IsBusy g ws w
