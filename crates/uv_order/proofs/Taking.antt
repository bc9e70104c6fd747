-- One taking more, by generation and in its chain.
use Rattle.std.proofs.Common.{◌≡◌, ◌≢◌, ℕ, ◌+◌, ◌≤◌, cond, refl, ap, ◌∙◌, eq-eqb, ne_eqb, arith, List, [], ◌∷◌, ◌++◌, Bool, true, false, nat_eq}
use Rattle.uv_order.specs.declared.signed.Signed.{Signed}
use Rattle.uv_order.specs.declared.taken.Taken.{Taken}
use Rattle.uv_order.specs.Takings.{run, Chains, AreYoung}
use Rattle.uv_order.specs.Laws.{TakingLaws}

module _ {T : Type 0} where
  abbrev signed_by : ℕ → Taken T → List (Signed (Taken T))
  signed_by n t = record { by = n; entry = t } ∷ []

  run_same : (g by : ℕ) (t : Taken T) (log : List (Signed (Taken T))) → t.generation ≡ g → run g (log ++ signed_by by t) ≡ run g log ++ t ∷ []
  run_same g by t [] e = ap (λ b. cond b (t ∷ []) []) (eq-eqb t.generation g e)
  run_same g by t (y ∷ ys) e = go (nat_eq y.entry.generation g) (run_same g by t ys e)
    where
      go : (b : Bool) → run g (ys ++ signed_by by t) ≡ run g ys ++ t ∷ []
          → cond b (y.entry ∷ run g (ys ++ signed_by by t)) (run g (ys ++ signed_by by t)) ≡ cond b (y.entry ∷ run g ys) (run g ys) ++ t ∷ []
      go true r = ap (λ l. y.entry ∷ l) r
      go false r = r

  run_other : (g by : ℕ) (t : Taken T) (log : List (Signed (Taken T))) → t.generation ≢ g → run g (log ++ signed_by by t) ≡ run g log
  run_other g by t [] ne = ap (λ b. cond b (t ∷ []) []) (ne_eqb t.generation g ne)
  run_other g by t (y ∷ ys) ne = ap (λ l. cond (nat_eq y.entry.generation g) (y.entry ∷ l) l) (run_other g by t ys ne)

  chains_on : (p : T) (ts : List (Taken T)) (o : T) (t : Taken T) → Chains p ts o → t.entered ≡ o → Chains p (ts ++ t ∷ []) t.left
  chains_on p [] o t c e = (e ∙ c, refl)
  chains_on p (u ∷ us) o t c e = (c.0, chains_on u.left us o t c.1 e)

  young_on : (g by : ℕ) (t : Taken T) (log : List (Signed (Taken T))) → AreYoung g log → t.generation ≤ g → AreYoung g (log ++ signed_by by t)
  young_on g by t [] y le = (le, tt)
  young_on g by t (u ∷ us) y le = (y.0, young_on g by t us y.1 le)

  young_later : (g : ℕ) (log : List (Signed (Taken T))) → AreYoung g log → AreYoung (g + 1) log
  young_later g [] y = tt
  young_later g (u ∷ us) y = (let le = y.0 in omega arith, young_later g us y.1)

  none_yet : (g : ℕ) (log : List (Signed (Taken T))) → AreYoung g log → run (g + 1) log ≡ []
  none_yet g [] y = refl
  none_yet g (u ∷ us) y = ap (λ b. cond b (u.entry ∷ run (g + 1) us) (run (g + 1) us)) (ne_eqb u.entry.generation (g + 1) (λ e. let le = y.0 in omega arith)) ∙ none_yet g us y.1

pub taking : (T : Type 0) → TakingLaws T
taking T = record {
  run_same = run_same;
  run_other = run_other;
  chains_on = chains_on;
  young_on = young_on;
  young_later = young_later;
  none_yet = none_yet;
}
