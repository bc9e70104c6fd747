-- Each item has one mark, and those of a seat are what the seat added.
use Rattle.std.proofs.Common.{◌≡◌, ◌≢◌, ℕ, suc, cond, subst, sym, refl, ap, ◌∙◌, eq-eqb, ne_eqb, arith, List, [], ◌∷◌, ◌++◌, length, map, Bool, true, false, nat_eq}
use mathlib.Core.Logic.{dite}
use native.Mathlib.Decide.{ℕ_discrete}
use Rattle.std.specs.Prelude.{flat_map, filter}
use Rattle.std.proofs.lemmas.List.Concat.{flat_map-cons}
use Rattle.std.proofs.lemmas.List.Elements.{filter-append}
use Rattle.uv_order.specs.declared.signed.Signed.{Signed}
use Rattle.uv_order.specs.Signed.{entries, those}
use Rattle.uv_order.specs.Marks.{picked, mark, marks, PickedAreOwn}

module _ {X C : Type 0} (own : C → Bool) (added : X → List C) where
  picked_two : (c : ℕ) (xs ys : List C) (ms ns : List ℕ) → length xs ≡ length ms → picked c (xs ++ ys) (ms ++ ns) ≡ picked c xs ms ++ picked c ys ns
  picked_two c [] ys [] ns e = refl
  picked_two c [] ys (m ∷ ms) ns e = absurd (omega arith)
  picked_two c (x ∷ xs) ys [] ns e = absurd (omega arith)
  picked_two c (x ∷ xs) ys (m ∷ ms) ns e = go (nat_eq m c) (picked_two c xs ys ms ns (omega arith))
    where
      go : (b : Bool) → picked c (xs ++ ys) (ms ++ ns) ≡ picked c xs ms ++ picked c ys ns
          → cond b (x ∷ picked c (xs ++ ys) (ms ++ ns)) (picked c (xs ++ ys) (ms ++ ns)) ≡ cond b (x ∷ picked c xs ms) (picked c xs ms) ++ picked c ys ns
      go true r = ap (λ l. x ∷ l) r
      go false r = r

  abbrev marked : ℕ → List C → List ℕ
  marked n xs = map (mark own added n) xs

  marked_length : (n : ℕ) (xs : List C) → length xs ≡ length (marked n xs)
  marked_length n [] = refl
  marked_length n (x ∷ xs) = ap suc (marked_length n xs)

  picked_mine : (n : ℕ) (xs : List C) → picked (suc n) xs (marked n xs) ≡ filter own xs
  picked_mine n [] = refl
  picked_mine n (x ∷ xs) = go (own x) (picked_mine n xs)
    where
      go : (b : Bool) → picked (suc n) xs (marked n xs) ≡ filter own xs
          → cond (nat_eq (cond b (suc n) 0) (suc n)) (x ∷ picked (suc n) xs (marked n xs)) (picked (suc n) xs (marked n xs)) ≡ cond b (x ∷ filter own xs) (filter own xs)
      go true r = ap (λ b. cond b (x ∷ picked (suc n) xs (marked n xs)) (picked (suc n) xs (marked n xs))) (eq-eqb (suc n) (suc n) refl) ∙ ap (λ l. x ∷ l) r
      go false r = ap (λ b. cond b (x ∷ picked (suc n) xs (marked n xs)) (picked (suc n) xs (marked n xs))) (ne_eqb 0 (suc n) (λ e. omega arith)) ∙ r

  picked_theirs : (n by : ℕ) → by ≢ n → (xs : List C) → picked (suc n) xs (marked by xs) ≡ []
  picked_theirs n by ne [] = refl
  picked_theirs n by ne (x ∷ xs) = go (own x) (picked_theirs n by ne xs)
    where
      go : (t : Bool) → picked (suc n) xs (marked by xs) ≡ []
          → cond (nat_eq (cond t (suc by) 0) (suc n)) (x ∷ picked (suc n) xs (marked by xs)) (picked (suc n) xs (marked by xs)) ≡ []
      go true r = ap (λ t. cond t (x ∷ picked (suc n) xs (marked by xs)) (picked (suc n) xs (marked by xs))) (ne_eqb (suc by) (suc n) (λ e. ne (omega arith))) ∙ r
      go false r = ap (λ t. cond t (x ∷ picked (suc n) xs (marked by xs)) (picked (suc n) xs (marked by xs))) (ne_eqb 0 (suc n) (λ e. omega arith)) ∙ r

  abbrev rest_of : ℕ → List (Signed X) → List C
  rest_of n ys = picked (suc n) (flat_map added (entries ys)) (marks own added ys)

  -- the first entry's items, and then the rest
  apart : (n : ℕ) (y : Signed X) (ys : List (Signed X)) → rest_of n (y ∷ ys) ≡ picked (suc n) (added y.entry) (marked y.by (added y.entry)) ++ rest_of n ys
  apart n y ys =
      (λ i. picked (suc n) (flat_map-cons added y.entry (entries ys) i) (flat_map-cons (λ (z : Signed X). marked z.by (added z.entry)) y ys i))
      ∙ picked_two (suc n) (added y.entry) (flat_map added (entries ys)) (marked y.by (added y.entry)) (marks own added ys) (marked_length y.by (added y.entry))

  picked_own : (n : ℕ) (log : List (Signed X)) → rest_of n log ≡ filter own (flat_map added (those n log))
  picked_own n [] = refl
  picked_own n (y ∷ ys) =
      apart n y ys
      ∙ dite (ℕ_discrete y.by n)
      (λ e. ap (λ l. l ++ rest_of n ys) (subst (λ k. picked (suc n) (added y.entry) (marked k (added y.entry)) ≡ filter own (added y.entry)) (sym e) (picked_mine n (added y.entry)))
      ∙ (ap (λ l. filter own (added y.entry) ++ l) (picked_own n ys)
      ∙ (sym (filter-append own (added y.entry) (flat_map added (those n ys)))
      ∙ (ap (λ l. filter own l) (sym (flat_map-cons added y.entry (those n ys)))
      ∙ ap (λ b. filter own (flat_map added (cond b (y.entry ∷ those n ys) (those n ys)))) (sym (eq-eqb y.by n e))))))
      (λ ne. ap (λ l. l ++ rest_of n ys) (picked_theirs n y.by ne (added y.entry))
      ∙ (picked_own n ys ∙ ap (λ b. filter own (flat_map added (cond b (y.entry ∷ those n ys) (those n ys)))) (sym (ne_eqb y.by n ne))))

pub picked_are_own : (X C : Type 0) → PickedAreOwn X C
picked_are_own X C own added n log = picked_own own added n log
