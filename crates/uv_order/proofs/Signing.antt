-- Who signed what, of two logs put together and of entries that one seat signed.
use Rattle.std.proofs.Common.{◌≡◌, ◌≢◌, inl, inr, ⊎_elim, ℕ, suc, ◌<◌, cond, sym, refl, ap, ◌∙◌, eq-eqb, ne_eqb, arith, List, [], ◌∷◌, ◌++◌, Bool, true, false, nat_eq}
use Rattle.std.proofs.lemmas.List.{map-append}
use mathlib.Core.Logic.{dite}
use native.Mathlib.Decide.{ℕ_discrete}
use Rattle.uv_order.specs.declared.signed.Signed.{Signed}
use Rattle.uv_order.specs.Signed.{nobody, entries, sign, those, Silent, AreBelow}
use Rattle.uv_order.specs.Laws.{SigningLaws}

module _ {E : Type 0} where
  pub entries_two : (xs ys : List (Signed E)) → entries (xs ++ ys) ≡ entries xs ++ entries ys
  entries_two xs ys = map-append (λ (y : Signed E). y.entry) xs ys

  pub entries_sign : (n : ℕ) (xs : List E) → entries (sign n xs) ≡ xs
  entries_sign n [] = refl
  entries_sign n (x ∷ xs) = ap (λ l. x ∷ l) (entries_sign n xs)

  pub those_two : (n : ℕ) (xs ys : List (Signed E)) → those n (xs ++ ys) ≡ those n xs ++ those n ys
  those_two n [] ys = refl
  those_two n (x ∷ xs) ys = go (nat_eq x.by n) (those_two n xs ys)
    where
      go : (t : Bool) → those n (xs ++ ys) ≡ those n xs ++ those n ys → cond t (x.entry ∷ those n (xs ++ ys)) (those n (xs ++ ys)) ≡ cond t (x.entry ∷ those n xs) (those n xs) ++ those n ys
      go true r = ap (λ l. x.entry ∷ l) r
      go false r = r

  pub those_sign : (n : ℕ) (xs : List E) → those n (sign n xs) ≡ xs
  those_sign n [] = refl
  those_sign n (x ∷ xs) = ap (λ t. cond t (x ∷ those n (sign n xs)) (those n (sign n xs))) (eq-eqb n n refl) ∙ ap (λ l. x ∷ l) (those_sign n xs)

  front_nil : (a b : List E) → a ++ b ≡ [] → a ≡ []
  front_nil [] b e = refl
  front_nil (x ∷ a) b e = absurd cc

  back_nil : (a b : List E) → a ++ b ≡ [] → b ≡ []
  back_nil [] b e = e
  back_nil (x ∷ a) b e = absurd cc

  pub silent_two : (n : ℕ) (xs ys : List (Signed E)) → Silent n xs → Silent n ys → Silent n (xs ++ ys)
  silent_two n xs ys p q = those_two n xs ys ∙ (ap (λ l. l ++ those n ys) p ∙ q)

  pub silent_front : (n : ℕ) (xs ys : List (Signed E)) → Silent n (xs ++ ys) → Silent n xs
  silent_front n xs ys p = front_nil (those n xs) (those n ys) (sym (those_two n xs ys) ∙ p)

  pub silent_back : (n : ℕ) (xs ys : List (Signed E)) → Silent n (xs ++ ys) → Silent n ys
  silent_back n xs ys p = back_nil (those n xs) (those n ys) (sym (those_two n xs ys) ∙ p)

  pub silent_other : (n by : ℕ) → by ≢ n → (xs : List E) → Silent n (sign by xs)
  silent_other n by ne [] = refl
  silent_other n by ne (x ∷ xs) = ap (λ t. cond t (x ∷ those n (sign by xs)) (those n (sign by xs))) (ne_eqb by n ne) ∙ silent_other n by ne xs

  pub silent_below : (n : ℕ) → n < nobody → (log : List (Signed E)) → AreBelow n log → Silent n log
  silent_below n lt [] b = refl
  silent_below n lt (y ∷ ys) b = ap (λ t. cond t (y.entry ∷ those n ys) (those n ys)) (ne_eqb y.by n (λ e. ⊎_elim (λ l. absurd (omega arith)) (λ l. absurd (omega arith)) b.0)) ∙ silent_below n lt ys b.1

  -- the first of entries of which n signed none is another's
  pub silent_head : (n : ℕ) (y : Signed E) (ys : List (Signed E)) → Silent n (y ∷ ys) → (y.by ≢ n) × Silent n ys
  silent_head n y ys s = dite (ℕ_discrete y.by n)
      (λ e. let q : y.entry ∷ those n ys ≡ [] = sym (ap (λ t. cond t (y.entry ∷ those n ys) (those n ys)) (eq-eqb y.by n e)) ∙ s in absurd (cc q))
      (λ ne. (ne, sym (ap (λ t. cond t (y.entry ∷ those n ys) (those n ys)) (ne_eqb y.by n ne)) ∙ s))

  pub below_two : (n : ℕ) (xs ys : List (Signed E)) → AreBelow n xs → AreBelow n ys → AreBelow n (xs ++ ys)
  below_two n [] ys p q = q
  below_two n (x ∷ xs) ys p q = (p.0, below_two n xs ys p.1 q)

  pub below_sign : (n by : ℕ) → by < n → (xs : List E) → AreBelow n (sign by xs)
  below_sign n by lt [] = tt
  below_sign n by lt (x ∷ xs) = (inl lt, below_sign n by lt xs)

  pub below_nobody : (n : ℕ) (xs : List E) → AreBelow n (sign nobody xs)
  below_nobody n [] = tt
  below_nobody n (x ∷ xs) = (inr refl, below_nobody n xs)

  pub below_more : (n : ℕ) (xs : List (Signed E)) → AreBelow n xs → AreBelow (suc n) xs
  below_more n [] b = tt
  below_more n (x ∷ xs) b = (⊎_elim (λ l. inl (omega arith)) (λ l. inr l) b.0, below_more n xs b.1)

pub signing : (E : Type 0) → SigningLaws E
signing E = record {
  entries_two = entries_two;
  entries_sign = entries_sign;
  those_two = those_two;
  those_sign = those_sign;
  silent_two = silent_two;
  silent_front = silent_front;
  silent_back = silent_back;
  silent_other = silent_other;
  silent_below = silent_below;
  below_two = below_two;
  below_sign = below_sign;
  below_nobody = below_nobody;
  below_more = below_more;
}
