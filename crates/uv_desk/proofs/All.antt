-- Which lists of seats are all of a desk's.
use Rattle.std.proofs.Common.{◌≡◌, ⊎_elim, inl, inr, ℕ, zero, suc, ◌+◌, ◌-◌, ◌<◌, List, [], ◌∷◌, length, map, refl, ap, sym, subst, arith}
use Rattle.atomic_table.specs.Seated.{TableId}
use Rattle.uv_num.specs.Each.{Each}
use Rattle.uv_desk.specs.Seats.{Placed, OneOf, HasNumber, freshes, all_fresh}
use Rattle.std.specs.Prelude.{Contains, IsPermutation, slice_index_or}
use Rattle.std.proofs.lemmas.List.Sorted.{Contains-permutation, IsPermutation-sym, length_permutation}
use Rattle.uv_desk.specs.Gathering.{IsAmong}
use Rattle.uv_desk.specs.Laws.{place, NewAreAll, PlacesAreAll, AnyOrderIsAll}
use Rattle.uv_desk.proofs.Drawing.{each_of_in, in_of_each, the_one, one_of_in}

module _ {E O : Type 0} where
  each_as : (Q : TableId × ℕ × ℕ → Type 0) (xs ys : List (Placed E O)) → map place xs ≡ map place ys → Each (λ (s : Placed E O). Q (place s)) ys → Each (λ (s : Placed E O). Q (place s)) xs
  each_as Q [] ys e q = tt
  each_as Q (x ∷ xs) [] e q = absurd (let n = ap length e in omega arith)
  each_as Q (x ∷ xs) (y ∷ ys) e q = let head : place x ≡ place y = cc e in let rest : map place xs ≡ map place ys = cc e in (subst Q (sym head) q.0, each_as Q xs ys rest q.1)

  one_as : (Q : TableId × ℕ × ℕ → Type 0) (xs ys : List (Placed E O)) → map place xs ≡ map place ys → OneOf (λ (s : Placed E O). Q (place s)) ys → OneOf (λ (s : Placed E O). Q (place s)) xs
  one_as Q [] [] e q = q
  one_as Q [] (y ∷ ys) e q = absurd (let n = ap length e in omega arith)
  one_as Q (x ∷ xs) [] e q = absurd q
  one_as Q (x ∷ xs) (y ∷ ys) e q = let head : place x ≡ place y = cc e in let rest : map place xs ≡ map place ys = cc e in ⊎_elim (λ h. inl (subst Q (sym head) h)) (λ r. inr (one_as Q xs ys rest r)) q

  length_as : (xs ys : List (Placed E O)) → map place xs ≡ map place ys → length xs ≡ length ys
  length_as [] [] e = refl
  length_as [] (y ∷ ys) e = absurd (let n = ap length e in omega arith)
  length_as (x ∷ xs) [] e = absurd (let n = ap length e in omega arith)
  length_as (x ∷ xs) (y ∷ ys) e = let rest : map place xs ≡ map place ys = cc e in ap suc (length_as xs ys rest)

  freshes_length : (t : TableId) (n more : ℕ) (history : List E) (own : ℕ → O) → length (freshes t n more history own) ≡ more
  freshes_length t n zero history own = refl
  freshes_length t n (suc more) history own = ap suc (freshes_length t (n + 1) more history own)

  freshes_at : (t : TableId) (n more : ℕ) (history : List E) (own : ℕ → O) → Each (λ (s : Placed E O). s.desk ≡ t) (freshes t n more history own)
  freshes_at t n zero history own = tt
  freshes_at t n (suc more) history own = (refl, freshes_at t (n + 1) more history own)

  -- none of them is the first
  freshes_count : (t : TableId) (n more count : ℕ) (history : List E) (own : ℕ → O) → 0 < n → Each (λ (s : Placed E O). s.number ≡ 0 → s.count ≡ count) (freshes t n more history own)
  freshes_count t n zero count history own lt = tt
  freshes_count t n (suc more) count history own lt = ((λ e. absurd (omega arith)), freshes_count t (n + 1) more count history own (omega arith))

  freshes_have : (t : TableId) (n more k : ℕ) (history : List E) (own : ℕ → O) → k < more → HasNumber (n + k) (freshes t n more history own)
  freshes_have t n zero k history own lt = absurd (omega arith)
  freshes_have t n (suc more) zero history own lt = inl (let z : n ≡ n + 0 = omega arith in z)
  freshes_have t n (suc more) (suc k) history own lt = inr (subst (λ (i : ℕ). HasNumber i (freshes t (n + 1) more history own)) (let z : n + 1 + k ≡ n + suc k = omega arith in z) (freshes_have t (n + 1) more k history own (omega arith)))

  all_have : (t : TableId) (count k : ℕ) (history : List E) (own : ℕ → O) → k < count → HasNumber (0 + k) (all_fresh t count history own)
  all_have t count zero history own lt = inl (let z : 0 ≡ 0 + 0 = omega arith in z)
  all_have t count (suc k) history own lt = inr (subst (λ (i : ℕ). HasNumber i (freshes t 1 (count - 1) history own)) (let z : 1 + k ≡ 0 + suc k = omega arith in z) (freshes_have t 1 (count - 1) k history own (omega arith)))

  all_length : (t : TableId) (count : ℕ) (history : List E) (own : ℕ → O) → 0 < count → length (all_fresh t count history own) ≡ count
  all_length t count history own lt = let n = freshes_length t 1 (count - 1) history own in omega arith

pub new_are_all : {E O : Type 0} → NewAreAll E O
new_are_all {E} {O} desk count history own lt = let len = all_length desk count history own lt in record {
  all = ((refl, freshes_at desk 1 (count - 1) history own), λ k below. all_have desk count k history own (omega arith));
  some = omega arith;
  counted = subst (λ (n : ℕ). Each (λ (s : Placed E O). s.number ≡ 0 → s.count ≡ n) (all_fresh desk count history own)) (sym len) ((λ e. refl), freshes_count desk 1 (count - 1) count history own (omega arith));
}

pub places_are_all : {E O : Type 0} → PlacesAreAll E O
places_are_all {E} {O} desk before after same all = let len = length_as after before same in record {
  all = (each_as (λ p. p.0 ≡ desk) after before same all.all.0, λ k below. one_as (λ p. p.1 ≡ 0 + k) after before same (all.all.1 k (omega arith)));
  some = let some = all.some in omega arith;
  counted = subst (λ (n : ℕ). Each (λ (s : Placed E O). s.number ≡ 0 → s.count ≡ n) after) (sym len) (each_as (λ p. p.1 ≡ 0 → p.2 ≡ length before) after before same all.counted);
}

module _ {X : Type 0} where
  contains_of_in : (x : X) (xs : List X) → IsAmong x xs → Contains xs x
  contains_of_in x [] i = absurd i
  contains_of_in x (y ∷ ys) i = ⊎_elim (λ e. (0, omega arith, e)) (λ r. let c = contains_of_in x ys r in let lt = c.1 in (suc c.0, omega arith, c.2)) i

  in_of_place : (x : X) (xs : List X) (k : ℕ) → k < length xs → slice_index_or xs k x ≡ x → IsAmong x xs
  in_of_place x [] k lt e = absurd (omega arith)
  in_of_place x (y ∷ ys) zero lt e = inl e
  in_of_place x (y ∷ ys) (suc k) lt e = inr (in_of_place x ys k (omega arith) e)

  in_order_of : (x : X) (xs ys : List X) → IsPermutation xs ys → IsAmong x xs → IsAmong x ys
  in_order_of x xs ys p i = let c = Contains-permutation xs ys x p (contains_of_in x xs i) in in_of_place x ys c.0 c.1 c.2

pub any_order_is_all : {E O : Type 0} → AnyOrderIsAll E O
any_order_is_all {E} {O} desk before after p all =
    let len = length_permutation before after p in let back = IsPermutation-sym before after p in
    let each : (P : Placed E O → Type 0) → Each P before → Each P after = λ P e. each_of_in P after (λ x i. in_of_each P before x e (in_order_of x after before back i)) in
    record {
      all = (each (λ s. s.desk ≡ desk) all.all.0, λ k below. let o = the_one (λ (s : Placed E O). s.number ≡ 0 + k) before (all.all.1 k (omega arith)) in one_of_in (λ (s : Placed E O). s.number ≡ 0 + k) after o.0 (in_order_of o.0 before after p o.1) o.2);
      some = let some = all.some in omega arith;
      counted = subst (λ (n : ℕ). Each (λ (s : Placed E O). s.number ≡ 0 → s.count ≡ n) after) (sym len) (each (λ s. s.number ≡ 0 → s.count ≡ length before) all.counted);
    }
