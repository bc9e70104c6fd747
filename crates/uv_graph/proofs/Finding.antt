-- What a search finds in a list that was mapped, filtered or grew.
use Rattle.std.proofs.Common.{◌≡◌, Bool, true, false, List, [], ◌∷◌, ◌++◌, Option, Some, None, map, refl, ap, sym, ◌∙◌, inl, inr}
use Rattle.std.specs.Prelude.{find, filter, cond, option_map}
use Rattle.std.proofs.lemmas.Option.{none-some, same_Some}
use Rattle.uv_machine.specs.Reached.{IsIn}

find_map_step : {X : Type 0} (f : X → X) (x : X) (b : Bool) (u v : Option X) → u ≡ option_map f v → cond b (Some (f x)) u ≡ option_map f (cond b (Some x) v)
find_map_step f x true u v e = refl
find_map_step f x false u v e = e

pub find-map : {X : Type 0} (p : X → Bool) (f : X → X) (xs : List X) → ((x : X) → IsIn x xs → p (f x) ≡ p x) → find p (map f xs) ≡ option_map f (find p xs)
find-map p f [] same = refl
find-map p f (x ∷ xs) same =
    ap (λ b. cond b (Some (f x)) (find p (map f xs))) (same x (inl refl))
    ∙ find_map_step f x (p x) (find p (map f xs)) (find p xs) (find-map p f xs (λ y k. same y (inr k)))

no_if : (b : Bool) → (b ≡ true → ⊥) → b ≡ false
no_if true h = absurd (h refl)
no_if false h = refl

find_filter_step : {X : Type 0} (p q : X → Bool) (x : X) (xs : List X) (b : Bool) → (p x ≡ true → b ≡ true) → find p (filter q xs) ≡ find p xs → find p (cond b (x ∷ filter q xs) (filter q xs)) ≡ cond (p x) (Some x) (find p xs)
find_filter_step p q x xs true pass rest = ap (cond (p x) (Some x)) rest
find_filter_step p q x xs false pass rest =
    let none : p x ≡ false = no_if (p x) (λ yes. (let no = pass yes in cc)) in
    rest ∙ sym (ap (λ c. cond c (Some x) (find p xs)) none)

-- what is dropped fails
pub find-filter : {X : Type 0} (p q : X → Bool) (xs : List X) → ((x : X) → IsIn x xs → p x ≡ true → q x ≡ true) → find p (filter q xs) ≡ find p xs
find-filter p q [] pass = refl
find-filter p q (x ∷ xs) pass = find_filter_step p q x xs (q x) (pass x (inl refl)) (find-filter p q xs (λ y k. pass y (inr k)))

find_kept_step : {X : Type 0} (p q : X → Bool) (x y : X) (ys : List X) (b c : Bool) → p y ≡ b → q y ≡ c → q x ≡ true → cond b (Some y) (find p ys) ≡ Some x → (find p ys ≡ Some x → find p (filter q ys) ≡ Some x) → find p (cond c (y ∷ filter q ys) (filter q ys)) ≡ Some x
find_kept_step p q x y ys true true e h t is rest = rw e is
find_kept_step p q x y ys true false e h t is rest = absurd (let same : q y ≡ q x = ap q (same_Some y x is) in cc)
find_kept_step p q x y ys false true e h t is rest = rw e (rest is)
find_kept_step p q x y ys false false e h t is rest = rest is

-- what is found is kept
pub find-kept : {X : Type 0} (p q : X → Bool) (x : X) (xs : List X) → q x ≡ true → find p xs ≡ Some x → find p (filter q xs) ≡ Some x
find-kept p q x [] t is = absurd (none-some x is)
find-kept p q x (y ∷ ys) t is = find_kept_step p q x y ys (p y) (q y) refl refl t is (find-kept p q x ys t)

find_more_step : {X : Type 0} (x y : X) (b : Bool) (u v : Option X) → cond b (Some y) u ≡ Some x → (u ≡ Some x → v ≡ Some x) → cond b (Some y) v ≡ Some x
find_more_step x y true u v is rest = is
find_more_step x y false u v is rest = rest is

pub find-more : {X : Type 0} (p : X → Bool) (x z : X) (xs : List X) → find p xs ≡ Some x → find p (xs ++ z ∷ []) ≡ Some x
find-more p x z [] is = absurd (none-some x is)
find-more p x z (y ∷ ys) is = find_more_step x y (p y) (find p ys) (find p (ys ++ z ∷ [])) is (find-more p x z ys)

pub find-more_fails : {X : Type 0} (p : X → Bool) (z : X) (xs : List X) → p z ≡ false → find p (xs ++ z ∷ []) ≡ find p xs
find-more_fails p z [] e = ap (λ b. cond b (Some z) None) e
find-more_fails p z (y ∷ ys) e = ap (cond (p y) (Some y)) (find-more_fails p z ys e)

find_last_step : {X : Type 0} (y z : X) (b : Bool) (u v : Option X) → cond b (Some y) u ≡ None → (u ≡ None → v ≡ Some z) → cond b (Some y) v ≡ Some z
find_last_step y z true u v is rest = absurd (none-some y (sym is))
find_last_step y z false u v is rest = rest is

pub find-last : {X : Type 0} (p : X → Bool) (z : X) (xs : List X) → p z ≡ true → find p xs ≡ None → find p (xs ++ z ∷ []) ≡ Some z
find-last p z [] e is = ap (λ b. cond b (Some z) None) e
find-last p z (y ∷ ys) e is = find_last_step y z (p y) (find p ys) (find p (ys ++ z ∷ [])) is (find-last p z ys e)

find_none_step : {X : Type 0} (y : X) (b : Bool) (u : Option X) → b ≡ false → u ≡ None → cond b (Some y) u ≡ None
find_none_step y true u e is = absurd cc
find_none_step y false u e is = is

-- nothing is found where each fails
pub find-none : {X : Type 0} (p : X → Bool) (xs : List X) → ((x : X) → IsIn x xs → p x ≡ false) → find p xs ≡ None
find-none p [] none = refl
find-none p (y ∷ ys) none = find_none_step y (p y) (find p ys) (none y (inl refl)) (find-none p ys (λ x k. none x (inr k)))
