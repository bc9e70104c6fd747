-- Chains: one more item at the end, and loops over slices and numbers.
use Rattle.std.proofs.Common.{◌≡◌, ℕ, zero, suc, ◌+◌, List, [], ◌∷◌, ◌++◌, Some, take, slice_get, refl, sym, ap, subst, ◌∙◌, arith}
use Rattle.std.proofs.lemmas.List.{take_more}
use Rattle.std.proofs.lemmas.Option.{get_or_from_slice_get, slice_get_within}
use Rattle.std.specs.List.{range_with_len}
use Rattle.uv_run.specs.Chains.{Chain}

range-snoc : (a n : ℕ) → range_with_len a (suc n) ≡ range_with_len a n ++ (a + n) ∷ []
range-snoc a zero = ap (λ (k : ℕ). k ∷ []) (omega arith)
range-snoc a (suc n) =
    ap (λ v. a ∷ v) (range-snoc (a + 1) n) ∙ ap (λ (k : ℕ). a ∷ (range_with_len (a + 1) n ++ k ∷ [])) (omega arith)

module _ {S X : Type 0} (R : S → X → S → Type 0) where
  -- one more item
  pub Chain-snoc : (s : S) (xs : List X) (s1 : S) (x : X) (s2 : S) → Chain R s xs s1 → R s1 x s2 → Chain R s (xs ++ x ∷ []) s2
  Chain-snoc s [] s1 x s2 all more =
      let P : S → Type 0 = λ v. R v x s2 in
      record { mid = s2; link = subst P all more; others = refl }
  Chain-snoc s (y ∷ xs) s1 x s2 all more = record { mid = all.mid; link = all.link; others = Chain-snoc all.mid xs s1 x s2 all.others more }

  -- one more item of a list
  pub Chain-take :
      (s : S) (xs : List X) (i : ℕ) (s1 : S) (x : X) (s2 : S) → slice_get xs i ≡ Some x → Chain R s (take i xs) s1 → R s1 x s2 → Chain R s (take (i + 1) xs) s2
  Chain-take s xs i s1 x s2 at all more =
      let P : List X → Type 0 = λ v. Chain R s v s2 in
      let front : take (i + 1) xs ≡ take i xs ++ x ∷ [] =
      take_more xs i x (slice_get_within xs i x at) ∙ ap (λ v. take i xs ++ v ∷ []) (get_or_from_slice_get xs i x x at)
      in
      subst P (sym front) (Chain-snoc s (take i xs) s1 x s2 all more)

  -- where the same item leads from the same to the same alone, so do chains
  pub Chain-once :
      ((s : S) (x : X) (t u : S) → R s x t → R s x u → t ≡ u) → (s : S) (xs : List X) (t u : S) → Chain R s xs t → Chain R s xs u → t ≡ u
  Chain-once once s [] t u a b = a ∙ sym b
  Chain-once once s (x ∷ xs) t u a b =
      let same : b.mid ≡ a.mid = once s x b.mid a.mid b.link a.link in
      let P : S → Type 0 = λ v. Chain R v xs u in
      Chain-once once a.mid xs t u a.others (subst P same b.others)

-- one more number
module _ {S : Type 0} (R : S → ℕ → S → Type 0) where
  pub Chain-more : (first n : ℕ) (s s1 s2 : S) → Chain R s (range_with_len first n) s1 → R s1 (first + n) s2 → Chain R s (range_with_len first (n + 1)) s2
  Chain-more first n s s1 s2 all more =
      let P : List ℕ → Type 0 = λ v. Chain R s v s2 in
      let e : range_with_len first (n + 1) ≡ range_with_len first n ++ (first + n) ∷ [] =
      ap (range_with_len first) (let k : n + 1 ≡ suc n = omega arith in k) ∙ range-snoc first n
      in
      subst P (sym e) (Chain-snoc R s (range_with_len first n) s1 (first + n) s2 all more)

  -- one more number below
  pub Chain-below : (n : ℕ) (s s1 s2 : S) → Chain R s (range_with_len 0 n) s1 → R s1 n s2 → Chain R s (range_with_len 0 (n + 1)) s2
  Chain-below n s s1 s2 all more =
      let P : ℕ → Type 0 = λ k. R s1 k s2 in
      Chain-more 0 n s s1 s2 all (subst P (let e : n ≡ 0 + n = omega arith in e) more)

  -- one more number from 1 on
  pub Chain-upto : (n : ℕ) (s s1 s2 : S) → Chain R s (range_with_len 1 n) s1 → R s1 (n + 1) s2 → Chain R s (range_with_len 1 (n + 1)) s2
  Chain-upto n s s1 s2 all more =
      let P : ℕ → Type 0 = λ k. R s1 k s2 in
      Chain-more 1 n s s1 s2 all (subst P (let e : n + 1 ≡ 1 + n = omega arith in e) more)
