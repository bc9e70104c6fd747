-- The marks of a file's objects taken out, one after another.
use Rattle.std.proofs.Common.{◌≡◌, ℕ, zero, suc, ◌+◌, ◌<◌, ◌≤◌, Bool, true, false, List, [], ◌∷◌, length, get_or, cond, refl, ap, ◌∙◌, arith}
use Rattle.std.specs.Prelude.{filter}
use Rattle.std.specs.List.{remove}

-- what is left of a list whose first so many items were looked at
abbrev pub left_of : {X : Type 0} → (X → Bool) → ℕ → List X → List X
left_of p zero xs = xs
left_of p (suc n) [] = []
left_of p (suc n) (x ∷ xs) = cond (p x) (x ∷ left_of p n xs) (left_of p n xs)

-- how many of the first so many stay
abbrev pub stay_of : {X : Type 0} → (X → Bool) → ℕ → List X → ℕ
stay_of p zero xs = 0
stay_of p (suc n) [] = 0
stay_of p (suc n) (x ∷ xs) = cond (p x) (suc (stay_of p n xs)) (stay_of p n xs)

pub stay_le : {X : Type 0} (p : X → Bool) (n : ℕ) (xs : List X) → stay_of p n xs ≤ n
stay_le p zero xs = omega arith
stay_le p (suc n) [] = omega arith
stay_le p (suc n) (x ∷ xs) =
    let rest = stay_le p n xs in
    elim (p x) as (λ b. cond b (suc (stay_of p n xs)) (stay_of p n xs) ≤ suc n) [ true ↦ omega arith | false ↦ omega arith ]

pub next_is : (n : ℕ) → suc n ≡ n + 1
next_is n = omega arith

pub left_all : {X : Type 0} (p : X → Bool) (xs : List X) → left_of p (length xs) xs ≡ filter p xs
left_all p [] = refl
left_all p (x ∷ xs) = ap (λ v. cond (p x) (x ∷ v) v) (left_all p xs)

-- an item that stays
pub left_stays : {X : Type 0} (p : X → Bool) (n : ℕ) (xs : List X) (d : X) → n < length xs → p (get_or xs n d) ≡ true → (left_of p (suc n) xs ≡ left_of p n xs) × (stay_of p (suc n) xs ≡ suc (stay_of p n xs))
left_stays p n [] d lt e = absurd (omega arith)
left_stays p zero (x ∷ xs) d lt e = (ap (λ b. cond b (x ∷ xs) xs) e, ap (λ b. cond b 1 0) e)
left_stays p (suc n) (x ∷ xs) d lt e =
    let rest = left_stays p n xs d (omega arith) e in
    (ap (λ v. cond (p x) (x ∷ v) v) rest.0, ap (λ v. cond (p x) (suc v) v) rest.1 ∙ elim (p x) as (λ b. cond b (suc (suc (stay_of p n xs))) (suc (stay_of p n xs)) ≡ suc (cond b (suc (stay_of p n xs)) (stay_of p n xs))) [ true ↦ refl | false ↦ refl ])

remove_suc : {X : Type 0} (x : X) (xs : List X) (i : ℕ) → remove (x ∷ xs) (suc i) ≡ x ∷ remove xs i
remove_suc x xs i = refl

-- an item that goes
pub left_goes : {X : Type 0} (p : X → Bool) (n : ℕ) (xs : List X) (d : X) → n < length xs → p (get_or xs n d) ≡ false → (left_of p (suc n) xs ≡ remove (left_of p n xs) (stay_of p n xs)) × (stay_of p (suc n) xs ≡ stay_of p n xs) × (stay_of p n xs < length (left_of p n xs))
left_goes p n [] d lt e = absurd (omega arith)
left_goes p zero (x ∷ xs) d lt e = (ap (λ b. cond b (x ∷ xs) xs) e, ap (λ b. cond b 1 0) e, omega arith)
left_goes p (suc n) (x ∷ xs) d lt e =
    let rest = left_goes p n xs d (omega arith) e in
    elim (p x) as (λ b. (cond b (x ∷ left_of p (suc n) xs) (left_of p (suc n) xs) ≡ remove (cond b (x ∷ left_of p n xs) (left_of p n xs)) (cond b (suc (stay_of p n xs)) (stay_of p n xs))) × (cond b (suc (stay_of p (suc n) xs)) (stay_of p (suc n) xs) ≡ cond b (suc (stay_of p n xs)) (stay_of p n xs)) × (cond b (suc (stay_of p n xs)) (stay_of p n xs) < length (cond b (x ∷ left_of p n xs) (left_of p n xs)))) [
      | true ↦ (ap (λ v. x ∷ v) rest.0, ap suc rest.1, (let lower = rest.2 in omega arith))
      | false ↦ (rest.0, rest.1, rest.2)
    ]
