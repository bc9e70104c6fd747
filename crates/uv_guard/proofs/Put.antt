-- Functions changed at one place.
use Rattle.std.proofs.Common.{◌≡◌, ℕ, ◌≢◌, eqb, cond, subst, sym, refl, ap, eq-eqb, ne_eqb}
use mathlib.Core.Logic.{dite}
use native.Mathlib.Decide.{ℕ_discrete}

-- the function that is a at i, and else f
abbrev pub put : {A : Type 0} → (ℕ → A) → ℕ → A → ℕ → A
put f i a j = cond (eqb j i) a (f j)

module _ {A : Type 0} (f : ℕ → A) (i : ℕ) (a : A) where
  pub put_here : put f i a i ≡ a
  put_here = ap (λ b. cond b a (f i)) (eq-eqb i i refl)

  pub put_else : (j : ℕ) → j ≢ i → put f i a j ≡ f j
  put_else j ne = ap (λ b. cond b a (f j)) (ne_eqb j i ne)

  pub put_at : (P : ℕ → A → Type 0) (j : ℕ) → P i a → (j ≢ i → P j (f j)) → P j (put f i a j)
  put_at P j here other = dite (ℕ_discrete j i) (λ e. subst (λ k. P k (put f i a k)) (sym e) (subst (P i) (sym put_here) here)) (λ ne. subst (P j) (sym (put_else j ne)) (other ne))
