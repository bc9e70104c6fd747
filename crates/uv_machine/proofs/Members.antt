-- The items of a list: at their places, among the list, and after maps and filters.
use Rattle.std.specs.Prelude.{ℕ, Bool, true, false, ◌||◌, ◌≡◌, ◌≢◌, ◌⊎◌, List, [], ◌∷◌, ◌++◌, None, Some, cond, refl, map, filter, find, reverse, slice_get, slice_set}
use Rattle.std.specs.List.{list_any}
use Rattle.std.proofs.Common.{zero, suc, ◌+◌, ◌≤◌, ◌<◌, count_by, ap, sym, subst, ◌∙◌, arith, inl, inr, ⊎_elim}
use Rattle.std.proofs.lemmas.Option.{none-some, same_Some}
use Rattle.std.proofs.lemmas.List.{reverse-append, reverse-reverse}
use Rattle.std.proofs.lemmas.List.Sums.{sum_by-cons}
use Rattle.uv_machine.specs.Reached.{IsIn}
use Rattle.uv_num.specs.Place.{at_place}
use Rattle.uv_num.proofs.PlaceLaws.{slice_get-at_place_other}

pub slice_get-set_same : {X : Type 0} (xs : List X) (i : ℕ) (x y : X) → slice_get xs i ≡ Some x → slice_get (slice_set xs i y) i ≡ Some y
slice_get-set_same [] i x y e = absurd (none-some x e)
slice_get-set_same (z ∷ xs) zero x y e = refl
slice_get-set_same (z ∷ xs) (suc i) x y e = slice_get-set_same xs i x y e

pub slice_get-set_other : {X : Type 0} (xs : List X) (i j : ℕ) (y : X) → i ≢ j → slice_get (slice_set xs i y) j ≡ slice_get xs j
slice_get-set_other [] i j y ne = refl
slice_get-set_other (z ∷ xs) zero zero y ne = absurd (ne refl)
slice_get-set_other (z ∷ xs) zero (suc j) y ne = refl
slice_get-set_other (z ∷ xs) (suc i) zero y ne = refl
slice_get-set_other (z ∷ xs) (suc i) (suc j) y ne = slice_get-set_other xs i j y (λ e. ne (ap suc e))

pub slice_get-at_place_elsewhere : {X : Type 0} (xs : List X) (i j : ℕ) (f : X → X) → i ≢ j → slice_get (at_place xs i f) j ≡ slice_get xs j
slice_get-at_place_elsewhere xs i j f ne = slice_get-at_place_other xs i j f (λ e. ne (sym e))

-- The items of a list.

pub IsIn-append-cases : {X : Type 0} (x : X) (xs ys : List X) → IsIn x (xs ++ ys) → IsIn x xs ⊎ IsIn x ys
IsIn-append-cases x [] ys h = inr h
IsIn-append-cases x (y ∷ xs) ys (inl e) = inl (inl e)
IsIn-append-cases x (y ∷ xs) ys (inr h) = ⊎_elim (λ k. inl (inr k)) (λ k. inr k) (IsIn-append-cases x xs ys h)

pub IsIn-append-left : {X : Type 0} (x : X) (xs ys : List X) → IsIn x xs → IsIn x (xs ++ ys)
IsIn-append-left x [] ys h = absurd h
IsIn-append-left x (y ∷ xs) ys (inl e) = inl e
IsIn-append-left x (y ∷ xs) ys (inr h) = inr (IsIn-append-left x xs ys h)

pub IsIn-append-right : {X : Type 0} (x : X) (xs ys : List X) → IsIn x ys → IsIn x (xs ++ ys)
IsIn-append-right x [] ys h = h
IsIn-append-right x (y ∷ xs) ys h = inr (IsIn-append-right x xs ys h)

reverse-cons : {X : Type 0} (y : X) (xs : List X) → reverse (y ∷ xs) ≡ reverse xs ++ y ∷ []
reverse-cons y xs = reverse-append (y ∷ []) xs

pub IsIn-reverse : {X : Type 0} (x : X) (xs : List X) → IsIn x xs → IsIn x (reverse xs)
IsIn-reverse x [] h = absurd h
IsIn-reverse x (y ∷ xs) (inl e) = rw (reverse-cons y xs) (IsIn-append-right x (reverse xs) (y ∷ []) (inl e))
IsIn-reverse x (y ∷ xs) (inr h) = rw (reverse-cons y xs) (IsIn-append-left x (reverse xs) (y ∷ []) (IsIn-reverse x xs h))

pub IsIn-from_reverse : {X : Type 0} (x : X) (xs : List X) → IsIn x (reverse xs) → IsIn x xs
IsIn-from_reverse x xs h = subst (λ ys. IsIn x ys) (reverse-reverse xs) (IsIn-reverse x (reverse xs) h)

-- an item of a mapped list comes from one of the list
pub record ComesFrom {X : Type 0} (f : X → X) (y : X) (xs : List X) : Type 0 where
  pub item : X
  pub within : IsIn item xs
  pub gives : y ≡ f item

ComesFrom-more : {X : Type 0} (f : X → X) (y x : X) (xs : List X) → ComesFrom f y xs → ComesFrom f y (x ∷ xs)
ComesFrom-more f y x xs k = record { item = k.item; within = inr k.within; gives = k.gives }

pub IsIn-map : {X : Type 0} (f : X → X) (y : X) (xs : List X) → IsIn y (map f xs) → ComesFrom f y xs
IsIn-map f y [] h = absurd h
IsIn-map f y (x ∷ xs) (inl e) = record { item = x; within = inl refl; gives = e }
IsIn-map f y (x ∷ xs) (inr h) = ComesFrom-more f y x xs (IsIn-map f y xs h)

-- an item of a list that passes a test
pub record Passes {X : Type 0} (p : X → Bool) (x : X) (xs : List X) : Type 0 where
  pub within : IsIn x xs
  pub test : p x ≡ true

Passes-more : {X : Type 0} (p : X → Bool) (x y : X) (xs : List X) → Passes p x xs → Passes p x (y ∷ xs)
Passes-more p x y xs k = record { within = inr k.within; test = k.test }

Passes-filter_step : {X : Type 0} (p : X → Bool) (x y : X) (ys : List X) (b : Bool) → p y ≡ b → IsIn x (cond b (y ∷ filter p ys) (filter p ys)) → (IsIn x (filter p ys) → Passes p x ys) → Passes p x (y ∷ ys)
Passes-filter_step p x y ys true e (inl k) rest = record { within = inl k; test = ap p k ∙ e }
Passes-filter_step p x y ys true e (inr h) rest = Passes-more p x y ys (rest h)
Passes-filter_step p x y ys false e h rest = Passes-more p x y ys (rest h)

pub Passes-filter : {X : Type 0} (p : X → Bool) (x : X) (xs : List X) → IsIn x (filter p xs) → Passes p x xs
Passes-filter p x [] h = absurd h
Passes-filter p x (y ∷ ys) h = Passes-filter_step p x y ys (p y) refl h (Passes-filter p x ys)

Passes-find_step : {X : Type 0} (p : X → Bool) (x y : X) (ys : List X) (b : Bool) → p y ≡ b → cond b (Some y) (find p ys) ≡ Some x → (find p ys ≡ Some x → Passes p x ys) → Passes p x (y ∷ ys)
Passes-find_step p x y ys true e h rest = let k = same_Some y x h in record { within = inl (sym k); test = ap p (sym k) ∙ e }
Passes-find_step p x y ys false e h rest = Passes-more p x y ys (rest h)

-- what a search finds
pub Passes-find : {X : Type 0} (p : X → Bool) (x : X) (xs : List X) → find p xs ≡ Some x → Passes p x xs
Passes-find p x [] h = absurd (none-some x h)
Passes-find p x (y ∷ ys) h = Passes-find_step p x y ys (p y) refl h (Passes-find p x ys)

fails_find_step : {X : Type 0} (p : X → Bool) (x y : X) (ys : List X) (b : Bool) → p y ≡ b → cond b (Some y) (find p ys) ≡ None → (find p ys ≡ None → IsIn x ys → p x ≡ false) → IsIn x (y ∷ ys) → p x ≡ false
fails_find_step p x y ys true e h rest k = absurd (none-some y (sym h))
fails_find_step p x y ys false e h rest (inl k) = ap p k ∙ e
fails_find_step p x y ys false e h rest (inr k) = rest h k

-- what a search finds nothing of
pub fails_find : {X : Type 0} (p : X → Bool) (x : X) (xs : List X) → find p xs ≡ None → IsIn x xs → p x ≡ false
fails_find p x [] h k = absurd k
fails_find p x (y ∷ ys) h k = fails_find_step p x y ys (p y) refl h (fails_find p x ys) k

-- an item that passes is there
pub record SomePasses {X : Type 0} (p : X → Bool) (xs : List X) : Type 0 where
  pub item : X
  pub passes : Passes p item xs

SomePasses-step : {X : Type 0} (p : X → Bool) (y : X) (ys : List X) (b : Bool) → p y ≡ b → (b || list_any p ys) ≡ true → (list_any p ys ≡ true → SomePasses p ys) → SomePasses p (y ∷ ys)
SomePasses-step p y ys true e h rest = record { item = y; passes = record { within = inl refl; test = e } }
SomePasses-step p y ys false e h rest = let k = rest h in record { item = k.item; passes = Passes-more p k.item y ys k.passes }

pub SomePasses-list_any : {X : Type 0} (p : X → Bool) (xs : List X) → list_any p xs ≡ true → SomePasses p xs
SomePasses-list_any p [] h = absurd (cc)
SomePasses-list_any p (y ∷ ys) h = SomePasses-step p y ys (p y) refl h (SomePasses-list_any p ys)

list_any-none_step : {X : Type 0} (p : X → Bool) (y : X) (ys : List X) → p y ≡ false → list_any p ys ≡ false → (p y || list_any p ys) ≡ false
list_any-none_step p y ys e h = rw e h

pub list_any-none : {X : Type 0} (p : X → Bool) (xs : List X) → ((x : X) → IsIn x xs → p x ≡ false) → list_any p xs ≡ false
list_any-none p [] h = refl
list_any-none p (y ∷ ys) h = list_any-none_step p y ys (h y (inl refl)) (list_any-none p ys (λ x k. h x (inr k)))

fails_any_step : {X : Type 0} (p : X → Bool) (x y : X) (ys : List X) (b : Bool) → p y ≡ b → (b || list_any p ys) ≡ false → (list_any p ys ≡ false → IsIn x ys → p x ≡ false) → IsIn x (y ∷ ys) → p x ≡ false
fails_any_step p x y ys true e h rest k = absurd (cc)
fails_any_step p x y ys false e h rest (inl k) = ap p k ∙ e
fails_any_step p x y ys false e h rest (inr k) = rest h k

pub fails_any : {X : Type 0} (p : X → Bool) (x : X) (xs : List X) → list_any p xs ≡ false → IsIn x xs → p x ≡ false
fails_any p x [] h k = absurd k
fails_any p x (y ∷ ys) h k = fails_any_step p x y ys (p y) refl h (fails_any p x ys) k

-- How many items of a mapped list pass a test.

-- one item in the count
abbrev pub one_if : Bool → ℕ
one_if true = 1
one_if false = 0

one_if-cond : (b : Bool) → cond b 1 0 ≡ one_if b
one_if-cond true = refl
one_if-cond false = refl

pub count_by-cons : {X : Type 0} (p : X → Bool) (x : X) (xs : List X) → count_by p (x ∷ xs) ≡ one_if (p x) + count_by p xs
count_by-cons p x xs = sum_by-cons (λ y. cond (p y) 1 0) x xs ∙ ap (λ n. n + count_by p xs) (one_if-cond (p x))

one_if-le : (a b : Bool) → (a ≡ true → b ≡ true) → one_if a ≤ one_if b
one_if-le true true h = omega arith
one_if-le true false h = absurd (let k = h refl in cc)
one_if-le false true h = omega arith
one_if-le false false h = omega arith

module _ {X : Type 0} (p : X → Bool) (f : X → X) (keeps : (x : X) → p (f x) ≡ true → p x ≡ true) where
  pub count_by-map-le : (xs : List X) → count_by p (map f xs) ≤ count_by p xs
  count_by-map-le [] = omega arith
  count_by-map-le (x ∷ xs) = omega (arith, count_by-cons p (f x) (map f xs), count_by-cons p x xs, one_if-le (p (f x)) (p x) (keeps x), count_by-map-le xs)

  count_by-map-lt_here : (x y : X) (ys : List X) → x ≡ y → p x ≡ true → p (f x) ≡ false → count_by p (map f (y ∷ ys)) < count_by p (y ∷ ys)
  count_by-map-lt_here x y ys e before behind =
      let a : one_if (p (f y)) ≡ 0 = ap (λ z. one_if (p (f z))) (sym e) ∙ ap one_if behind in
      let b : one_if (p y) ≡ 1 = ap (λ z. one_if (p z)) (sym e) ∙ ap one_if before in
      omega (arith, count_by-cons p (f y) (map f ys), count_by-cons p y ys, count_by-map-le ys, a, b)

  pub count_by-map-lt : (x : X) (xs : List X) → IsIn x xs → p x ≡ true → p (f x) ≡ false → count_by p (map f xs) < count_by p xs
  count_by-map-lt x [] h before behind = absurd h
  count_by-map-lt x (y ∷ ys) (inl e) before behind = count_by-map-lt_here x y ys e before behind
  count_by-map-lt x (y ∷ ys) (inr h) before behind = omega (arith, count_by-cons p (f y) (map f ys), count_by-cons p y ys, one_if-le (p (f y)) (p y) (keeps y), count_by-map-lt x ys h before behind)

pub IsIn-into_map : {X : Type 0} (f : X → X) (x : X) (xs : List X) → IsIn x xs → IsIn (f x) (map f xs)
IsIn-into_map f x [] h = absurd h
IsIn-into_map f x (y ∷ ys) (inl e) = inl (ap f e)
IsIn-into_map f x (y ∷ ys) (inr h) = inr (IsIn-into_map f x ys h)
