-- The place of a seat's own entry in a log.
use Rattle.std.proofs.Common.{◌≡◌, cond, sym, refl, ap, ◌∙◌, eq-eqb, ne_eqb, List, [], ◌∷◌, ◌++◌}
use mathlib.Core.Logic.{dite}
use native.Mathlib.Decide.{ℕ_discrete}
use Rattle.uv_order.specs.declared.signed.Signed.{Signed}
use Rattle.uv_order.specs.Signed.{those}
use Rattle.uv_order.specs.Places.{StandsIn, OwnHasPlace}

pub own_has_place : (E : Type 0) → OwnHasPlace E
own_has_place E n [] b t [] e = absurd cc
own_has_place E n (x ∷ a) b t [] e = absurd cc
own_has_place E n a b t (y ∷ ys) e = dite (ℕ_discrete y.by n)
    (λ s. mine a (sym (ap (λ c. cond c (y.entry ∷ those n ys) (those n ys)) (eq-eqb y.by n s)) ∙ e) s (λ c q. own_has_place E n c b t ys q))
    (λ ne. let here = ne_eqb y.by n ne in
    let r = own_has_place E n a b t ys (sym (ap (λ c. cond c (y.entry ∷ those n ys) (those n ys)) here) ∙ e) in
    record {
      before = y ∷ r.before;
      behind = r.behind;
      stands = ap (λ l. y ∷ l) r.stands;
      own_before = ap (λ c. cond c (y.entry ∷ those n r.before) (those n r.before)) here ∙ r.own_before;
    })
  where
    mine : (c : List E) → y.entry ∷ those n ys ≡ c ++ t ∷ b → y.by ≡ n → ((d : List E) → those n ys ≡ d ++ t ∷ b → StandsIn n d t ys) → StandsIn n c t (y ∷ ys)
    mine [] q s go =
        let head : y.entry ≡ t = cc q in
        record {
          before = [];
          behind = ys;
          stands = ap (λ (p : Signed E). p ∷ ys) (λ i. record { by = s i; entry = head i });
          own_before = refl;
        }
    mine (z ∷ c) q s go =
        let head : y.entry ≡ z = cc q in
        let r = go c (cc q) in
        record {
          before = y ∷ r.before;
          behind = r.behind;
          stands = ap (λ l. y ∷ l) r.stands;
          own_before = ap (λ k. cond k (y.entry ∷ those n r.before) (those n r.before)) (eq-eqb y.by n s) ∙ cc (head, r.own_before);
        }
