-- Which holds a word counts, beside those of one call.
use Rattle.std.proofs.Common.{◌≡◌, ◌≢◌, ℕ, zero, suc, ◌+◌, ◌<◌, ◌≤◌, Bool, true, false, List, [], ◌∷◌, Some, cond, inl, inr, refl, ap, sym, ◌∙◌, arith}
use Rattle.std.specs.Prelude.{slice_get, not, ◌&&◌, ◌||◌, ◌==◌, nat_lt, sum_by, count_by}
use Rattle.std.specs.List.{list_any, enumerate_from}
use Rattle.std.proofs.lemmas.Bool.{eq-eqb, ne_eqb}
use Rattle.std.proofs.lemmas.Bool.Decides.{nat_tests}
use Rattle.std.proofs.lemmas.List.Sums.{sum_by-cons}
use Rattle.uv_machine.specs.Reached.{IsIn}
use Rattle.uv_machine.proofs.Sums.{worth}

-- A sum is more than nothing where an item is.

pub lt_true : (a b : ℕ) → a < b → nat_lt a b ≡ true
lt_true a b lt = grind (arith, nat_tests)

pub lt_false : (a b : ℕ) → b ≤ a → nat_lt a b ≡ false
lt_false a b le = grind (arith, nat_tests)

lt_plus : (a b : ℕ) → nat_lt 0 (a + b) ≡ (nat_lt 0 a || nat_lt 0 b)
lt_plus zero b = let e : 0 + b ≡ b = omega arith in ap (λ n. nat_lt 0 n) e
lt_plus (suc a) b = lt_true 0 (suc a + b) (omega arith) ∙ sym (ap (λ v. v || nat_lt 0 b) (lt_true 0 (suc a) (omega arith)))

pub any_sum : {X : Type 0} (f : X → ℕ) (p : X → Bool) (xs : List X) → ((x : X) → IsIn x xs → nat_lt 0 (f x) ≡ p x) → nat_lt 0 (sum_by f xs) ≡ list_any p xs
any_sum f p [] same = refl
any_sum f p (x ∷ xs) same =
    ap (λ n. nat_lt 0 n) (sum_by-cons f x xs)
    ∙ (lt_plus (f x) (sum_by f xs)
    ∙ (ap (λ b. b || nat_lt 0 (sum_by f xs)) (same x (inl refl))
    ∙ ap (λ b. p x || b) (any_sum f p xs (λ y k. same y (inr k)))))

one_counts : (b : Bool) → nat_lt 0 (cond b 1 0) ≡ b
one_counts true = refl
one_counts false = refl

pub any_count : {X : Type 0} (p : X → Bool) (xs : List X) → nat_lt 0 (count_by p xs) ≡ list_any p xs
any_count p xs = any_sum (λ x. cond (p x) 1 0) p xs (λ x k. one_counts (p x))

-- An item at a place, beside another place.

abbrev pub passes_beside : {X : Type 0} → ℕ → (X → Bool) → ℕ × X → Bool
passes_beside c p s = not (s.0 == c) && p s.1

pub none_beside : {X : Type 0} (c : ℕ) (p : X → Bool) (first : ℕ) (xs : List X) → ((k : ℕ) (x : X) → slice_get xs k ≡ Some x → first + k ≢ c → p x ≡ false) → list_any (passes_beside c p) (enumerate_from first xs) ≡ false
none_beside c p first [] h = refl
none_beside c p first (x ∷ xs) h =
    let rest = none_beside c p (first + 1) xs (λ k y e apart. h (suc k) y e (λ same. apart (omega arith))) in
    let head : (b : Bool) → (first == c) ≡ b → (not b && p x) ≡ false = λ b. elim b as (λ v. (first == c) ≡ v → (not v && p x) ≡ false) [
      | true ↦ λ e. refl
      | false ↦ λ e. h zero x refl (λ same. let no : (first == c) ≡ true = eq-eqb first c (omega arith) in cc)
    ] in
    ap (λ b. b || list_any (passes_beside c p) (enumerate_from (first + 1) xs)) (head (first == c) refl) ∙ rest

or_late : (a b : Bool) → b ≡ true → (a || b) ≡ true
or_late true b e = refl
or_late false b e = e

pub some_beside : {X : Type 0} (c : ℕ) (p : X → Bool) (first : ℕ) (xs : List X) (k : ℕ) (x : X) → slice_get xs k ≡ Some x → first + k ≢ c → p x ≡ true → list_any (passes_beside c p) (enumerate_from first xs) ≡ true
some_beside c p first [] k x e apart passes = cc
some_beside c p first (y ∷ ys) zero x e apart passes =
    let same : y ≡ x = cc in
    let here : p y ≡ true = ap p same ∙ passes in
    rw (ne_eqb first c (λ is. apart (omega arith)), here) refl
some_beside c p first (y ∷ ys) (suc k) x e apart passes =
    or_late (passes_beside c p (first, y)) _ (some_beside c p (first + 1) ys k x e (λ is. apart (omega arith)) passes)

-- Sums beside one place.

less_beside : (a b : ℕ) → nat_lt a (a + b) ≡ nat_lt 0 b
less_beside a zero = lt_false a (a + 0) (omega arith)
less_beside a (suc b) = lt_true a (a + suc b) (omega arith) ∙ sym (lt_true 0 (suc b) (omega arith))

pub value_le : {X : Type 0} (f : X → ℕ) (xs : List X) (k : ℕ) → worth f (slice_get xs k) ≤ sum_by f xs
value_le f [] k = omega arith
value_le f (x ∷ xs) zero = omega (arith, sum_by-cons f x xs)
value_le f (x ∷ xs) (suc k) = omega (arith, sum_by-cons f x xs, value_le f xs k)

past_it : {X : Type 0} (c : ℕ) (p : X → Bool) (first : ℕ) (xs : List X) → c < first → list_any (passes_beside c p) (enumerate_from first xs) ≡ list_any p xs
past_it c p first [] lt = refl
past_it c p first (x ∷ xs) lt =
    rw (ne_eqb first c (λ same. omega arith)) (ap (λ b. p x || b) (past_it c p (first + 1) xs (omega arith)))

weighs : (a w s : ℕ) → w ≤ s → nat_lt w (a + s) ≡ (nat_lt 0 a || nat_lt w s)
weighs zero w s le = let e : 0 + s ≡ s = omega arith in ap (λ n. nat_lt w n) e
weighs (suc a) w s le = lt_true w (suc a + s) (omega arith) ∙ sym (ap (λ v. v || nat_lt w s) (lt_true 0 (suc a) (omega arith)))

-- an item passes beside a place where the sum is more than what stands there
pub sum_beside : {X : Type 0} (c : ℕ) (f : X → ℕ) (p : X → Bool) (first : ℕ) (xs : List X) (k : ℕ) → first + k ≡ c → ((x : X) → IsIn x xs → nat_lt 0 (f x) ≡ p x) → list_any (passes_beside c p) (enumerate_from first xs) ≡ nat_lt (worth f (slice_get xs k)) (sum_by f xs)
sum_beside c f p first [] k at same = refl
sum_beside c f p first (x ∷ xs) zero at same =
    let here : first ≡ c = omega arith in
    let more : c < first + 1 = omega arith in
    rw (eq-eqb first c here) (past_it c p (first + 1) xs more
    ∙ (sym (any_sum f p xs (λ y k. same y (inr k)))
    ∙ (sym (less_beside (f x) (sum_by f xs)) ∙ ap (λ v. nat_lt (f x) v) (sym (sum_by-cons f x xs)))))
sum_beside c f p first (x ∷ xs) (suc k) at same =
    let rest = sum_beside c f p (first + 1) xs k (omega arith) (λ y i. same y (inr i)) in
    let w = worth f (slice_get xs k) in
    rw (ne_eqb first c (λ is. omega arith)) (ap (λ b. p x || b) rest
    ∙ (ap (λ b. b || nat_lt w (sum_by f xs)) (sym (same x (inl refl)))
    ∙ (sym (weighs (f x) w (sum_by f xs) (value_le f xs k)) ∙ ap (λ v. nat_lt w v) (sym (sum_by-cons f x xs)))))
