-- Functions changed at one number, and how many seats have a ticket.
use Rattle.std.proofs.Common.{◌≡◌, ℕ, zero, suc, ◌<◌, ◌≤◌, ◌≢◌, cond, subst, sym, refl, ap, ◌∙◌, eq-eqb, ne_eqb, arith}
use mathlib.Core.Logic.{dite}
use native.Mathlib.Decide.{ℕ_discrete}
use Rattle.std.specs.Prelude.{Option, Some, None}
use Rattle.uv_num.specs.Place.{changed}
use Rattle.uv_desk.specs.Rule.{counts_if, waiting}

module _ {A : Type 0} (f : ℕ → A) (i : ℕ) (a : A) where
  pub changed_here : changed f i a i ≡ a
  changed_here = ap (λ b. cond b a (f i)) (eq-eqb i i refl)

  pub changed_else : (j : ℕ) → j ≢ i → changed f i a j ≡ f j
  changed_else j ne = ap (λ b. cond b a (f j)) (ne_eqb j i ne)

  pub changed_at : (P : ℕ → A → Type 0) (j : ℕ) → P i a → (j ≢ i → P j (f j)) → P j (changed f i a j)
  changed_at P j here other = dite (ℕ_discrete j i) (λ e. subst (λ k. P k (changed f i a k)) (sym e) (subst (P i) (sym changed_here) here)) (λ ne. subst (P j) (sym (changed_else j ne)) (other ne))

waits_same : (f : ℕ → Option ℕ) (i : ℕ) (x : Option ℕ) (n : ℕ) → n ≤ i → waiting (changed f i x) n ≡ waiting f n
waits_same f i x zero le = refl
waits_same f i x (suc n) le =
    let e : changed f i x n ≡ f n = changed_else f i x n (λ e. omega arith) in
    let r = waits_same f i x n (omega arith) in
    let a : counts_if (changed f i x n) ≡ counts_if (f n) = ap counts_if e in
    omega arith

-- a seat with no ticket draws one
pub waits_more : (f : ℕ → Option ℕ) (i k n : ℕ) → f i ≡ None → i < n → waiting (changed f i (Some k)) n ≡ suc (waiting f n)
waits_more f i k zero none lt = absurd (omega arith)
waits_more f i k (suc n) none lt = dite (ℕ_discrete n i)
    (λ e. let a : counts_if (changed f i (Some k) n) ≡ 1 = ap counts_if (ap (changed f i (Some k)) e ∙ changed_here f i (Some k)) in
    let b : counts_if (f n) ≡ 0 = ap counts_if (ap f e ∙ none) in
    let r = waits_same f i (Some k) n (omega arith) in omega arith)
    (λ ne. let a : counts_if (changed f i (Some k) n) ≡ counts_if (f n) = ap counts_if (changed_else f i (Some k) n ne) in
    let r = waits_more f i k n none (omega arith) in omega arith)

-- a seat with a ticket gives it up
pub waits_less : (f : ℕ → Option ℕ) (i k n : ℕ) → f i ≡ Some k → i < n → waiting f n ≡ suc (waiting (changed f i None) n)
waits_less f i k zero some lt = absurd (omega arith)
waits_less f i k (suc n) some lt = dite (ℕ_discrete n i)
    (λ e. let a : counts_if (changed f i None n) ≡ 0 = ap counts_if (ap (changed f i None) e ∙ changed_here f i None) in
    let b : counts_if (f n) ≡ 1 = ap counts_if (ap f e ∙ some) in
    let r = waits_same f i None n (omega arith) in omega arith)
    (λ ne. let a : counts_if (changed f i None n) ≡ counts_if (f n) = ap counts_if (changed_else f i None n ne) in
    let r = waits_less f i k n some (omega arith) in omega arith)

at_most_one : (x : Option ℕ) → counts_if x ≤ 1
at_most_one None = omega arith
at_most_one (Some _) = omega arith

pub waits_few : (f : ℕ → Option ℕ) (n : ℕ) → waiting f n ≤ n
waits_few f zero = omega arith
waits_few f (suc n) = let a = at_most_one (f n) in let r = waits_few f n in omega arith
