-- Sums and counts over a list with one place changed, each item changed, or a part left out.
use Rattle.std.proofs.Common.{length, cond, replicate, inl, inr, ◌≡◌, ℕ, zero, suc, ◌+◌, ◌<◌, ◌≤◌, Bool, true, false, List, [], ◌∷◌, ◌++◌, Option, Some, None, map, refl, ap, sym, ◌∙◌, subst, arith}
use Rattle.std.specs.Prelude.{nat_lt, ◌==◌, ◌||◌, reverse, option_map, slice_get, filter, find, sum_by, count_by, if◌then◌else◌}
use Rattle.std.specs.List.{AllByRecursion, list_any, position_or_len}
use Rattle.std.proofs.lemmas.List.Folds.{find_at}
use Rattle.std.proofs.lemmas.Bool.{or_left, or_right, or_parts, cases_lt}
use Rattle.std.proofs.lemmas.Bool.Decides.{nat_tests}
use Rattle.std.proofs.lemmas.List.Sorted.{list_any-IsPermutation, IsPermutation-reverse}
use Rattle.std.proofs.lemmas.List.Sums.{sum_by-cons}
use Rattle.uv_num.specs.Place.{at_place}
use Rattle.uv_num.proofs.PlaceLaws.{at_place-cons}

filtered_le : {X : Type 0} (f : X → ℕ) (b : Bool) (x : X) (xs kept : List X) → sum_by f kept ≤ sum_by f xs → sum_by f (if b then x ∷ kept else kept) ≤ sum_by f (x ∷ xs)
filtered_le f true x xs kept le = omega (arith, sum_by-cons f x xs, sum_by-cons f x kept)
filtered_le f false x xs kept le = omega (arith, sum_by-cons f x xs)

-- a part sums to no more than the whole
pub sum_by-filter-le : {X : Type 0} (f : X → ℕ) (p : X → Bool) (xs : List X) → sum_by f (filter p xs) ≤ sum_by f xs
sum_by-filter-le f p [] = omega arith
sum_by-filter-le f p (x ∷ xs) = filtered_le f (p x) x xs (filter p xs) (sum_by-filter-le f p xs)

-- items that each don't grow
pub sum_by-map-le : {X : Type 0} (f : X → ℕ) (g : X → X) (xs : List X) → AllByRecursion (λ x. f (g x) ≤ f x) xs → sum_by f (map g xs) ≤ sum_by f xs
sum_by-map-le f g [] all = omega arith
sum_by-map-le f g (x ∷ xs) all =
    omega (arith, sum_by-cons f x xs, sum_by-cons f (g x) (map g xs), all.0, sum_by-map-le f g xs all.1)

-- what is true of all values is true of each item
pub each_item : {X : Type 0} (P : X → Type 0) → ((x : X) → P x) → (xs : List X) → AllByRecursion P xs
each_item P all [] = tt
each_item P all (x ∷ xs) = (all x, each_item P all xs)

-- the value of an optional item, 0 where there is none
abbrev pub worth : {X : Type 0} → (X → ℕ) → Option X → ℕ
worth f None = 0
worth f (Some x) = f x

-- the sum with the item at a place changed, whether or not there is one
pub sum_by-at_place_worth : {X : Type 0} (f : X → ℕ) (g : X → X) (xs : List X) (i : ℕ) → sum_by f (at_place xs i g) + worth f (slice_get xs i) ≡ sum_by f xs + worth f (option_map g (slice_get xs i))
sum_by-at_place_worth f g [] i = refl
sum_by-at_place_worth f g (y ∷ ys) zero = omega (arith, sum_by-cons f y ys, sum_by-cons f (g y) ys)
sum_by-at_place_worth f g (y ∷ ys) (suc i) =
    let step : sum_by f (at_place (y ∷ ys) (suc i) g) ≡ f y + sum_by f (at_place ys i g) = ap (sum_by f) (at_place-cons y ys i g) ∙ sum_by-cons f y (at_place ys i g) in
    omega (arith, step, sum_by-cons f y ys, sum_by-at_place_worth f g ys i)

found_passes : {X : Type 0} (p : X → Bool) (b : Bool) (y x : X) (ys : List X) → p y ≡ b → (if b then Some y else find p ys) ≡ Some x → (find p ys ≡ Some x → p x ≡ true) → p x ≡ true
found_passes p true y x ys is e later = let same : y ≡ x = cc in rw (← same) is
found_passes p false y x ys is e later = later e

-- what a search finds passes its test
pub find_passes : {X : Type 0} (p : X → Bool) (xs : List X) (x : X) → find p xs ≡ Some x → p x ≡ true
find_passes p [] x e = cc
find_passes p (y ∷ ys) x e = found_passes p (p y) y x ys refl e (find_passes p ys x)

found_among : {X : Type 0} (p q : X → Bool) (b : Bool) (y x : X) (ys : List X) → (if b then Some y else find p ys) ≡ Some x → q x ≡ true → (find p ys ≡ Some x → list_any q ys ≡ true) → (q y || list_any q ys) ≡ true
found_among p q true y x ys e is later = let same : y ≡ x = cc in or_left (q y) (list_any q ys) (rw same is)
found_among p q false y x ys e is later = or_right (q y) (list_any q ys) (later e)

-- what a search finds is in the list
pub find_among : {X : Type 0} (p q : X → Bool) (xs : List X) (x : X) → find p xs ≡ Some x → q x ≡ true → list_any q xs ≡ true
find_among p q [] x e is = cc
find_among p q (y ∷ ys) x e is = found_among p q (p y) y x ys e is (λ later. find_among p q ys x later is)

some_falls : {X : Type 0} (f : X → ℕ) (g : X → X) (p : X → Bool) (b : Bool) (y : X) (ys : List X) → p y ≡ b → (b || list_any p ys) ≡ true → f (g y) ≤ f y → (p y ≡ true → f (g y) < f y) → sum_by f (map g ys) ≤ sum_by f ys → (list_any p ys ≡ true → sum_by f (map g ys) < sum_by f ys) → sum_by f (map g (y ∷ ys)) < sum_by f (y ∷ ys)
some_falls f g p true y ys is e stays falls rest later =
    let here : f (g y) < f y = falls is in
    omega (arith, sum_by-cons f y ys, sum_by-cons f (g y) (map g ys))
some_falls f g p false y ys is e stays falls rest later =
    let less : sum_by f (map g ys) < sum_by f ys = later e in
    omega (arith, sum_by-cons f y ys, sum_by-cons f (g y) (map g ys))

-- items that each don't grow, of which those that pass a test fall, and one passes
pub sum_by-map-falls : {X : Type 0} (f : X → ℕ) (g : X → X) (p : X → Bool) (xs : List X) → ((y : X) → f (g y) ≤ f y) → ((y : X) → p y ≡ true → f (g y) < f y) → list_any p xs ≡ true → sum_by f (map g xs) < sum_by f xs
sum_by-map-falls f g p [] stays falls e = cc
sum_by-map-falls f g p (y ∷ ys) stays falls e =
    some_falls f g p (p y) y ys refl e (stays y) (falls y) (sum_by-map-le f g ys (each_item _ stays ys)) (sum_by-map-falls f g p ys stays falls)

-- what a search from the back finds is in the list
pub find_among_reverse : {X : Type 0} (p q : X → Bool) (xs : List X) (x : X) → find p (reverse xs) ≡ Some x → q x ≡ true → list_any q xs ≡ true
find_among_reverse p q xs x e is = list_any-IsPermutation q xs (reverse xs) (IsPermutation-reverse xs) ∙ find_among p q (reverse xs) x e is

-- no item is worth more than the sum
pub sum_by-item : {X : Type 0} (f : X → ℕ) (xs : List X) (i : ℕ) (x : X) → slice_get xs i ≡ Some x → f x ≤ sum_by f xs
sum_by-item f [] i x e = cc
sum_by-item f (y ∷ ys) zero x e = let same : y ≡ x = cc in rw (← same) (omega (arith, sum_by-cons f y ys))
sum_by-item f (y ∷ ys) (suc i) x e = omega (arith, sum_by-cons f y ys, sum_by-item f ys i x e)

-- What is true of each item.

-- the item at a place
pub each_at : {X : Type 0} (P : X → Type 0) (xs : List X) (i : ℕ) (x : X) → slice_get xs i ≡ Some x → AllByRecursion P xs → P x
each_at P [] i x e all = cc
each_at {X} P (y ∷ ys) zero x e all = let same : y ≡ x = cc in let Q : X → Type 0 = λ v. P v in subst Q same all.0
each_at P (y ∷ ys) (suc i) x e all = each_at P ys i x e all.1

-- one item changed
pub each-at_place : {X : Type 0} (P : X → Type 0) (g : X → X) (xs : List X) (i : ℕ) → ((x : X) → slice_get xs i ≡ Some x → P (g x)) → AllByRecursion P xs → AllByRecursion P (at_place xs i g)
each-at_place P g [] i keeps all = tt
each-at_place P g (y ∷ ys) zero keeps all = (keeps y refl, all.1)
each-at_place {X} P g (y ∷ ys) (suc i) keeps all =
    let Q : List X → Type 0 = λ v. AllByRecursion P v in
    subst Q (sym (at_place-cons y ys i g)) (all.0, each-at_place P g ys i keeps all.1)

-- each item changed
pub each-map : {X : Type 0} (P : X → Type 0) (g : X → X) (xs : List X) → ((x : X) → P x → P (g x)) → AllByRecursion P xs → AllByRecursion P (map g xs)
each-map P g [] keeps all = tt
each-map P g (x ∷ xs) keeps all = (keeps x all.0, each-map P g xs keeps all.1)

-- the items that pass a test
pub each-filter : {X : Type 0} (P : X → Type 0) (p : X → Bool) (xs : List X) → AllByRecursion P xs → AllByRecursion P (filter p xs)
each-filter P p [] all = tt
each-filter P p (x ∷ xs) all =
    let kept : AllByRecursion P (filter p xs) = each-filter P p xs all.1 in
    elim (p x) as (λ b. AllByRecursion P (if b then x ∷ filter p xs else filter p xs)) [ true ↦ (all.0, kept) | false ↦ kept ]

-- one item more
pub each-push : {X : Type 0} (P : X → Type 0) (xs : List X) (y : X) → AllByRecursion P xs → P y → AllByRecursion P (xs ++ y ∷ [])
each-push P [] y all one = (one, tt)
each-push P (x ∷ xs) y all one = (all.0, each-push P xs y all.1 one)

-- one item so many times
pub each-replicate : {X : Type 0} (P : X → Type 0) (n : ℕ) (x : X) → P x → AllByRecursion P (replicate n x)
each-replicate P zero x one = tt
each-replicate P (suc n) x one = (one, each-replicate P n x one)

-- what an item counts
abbrev pub one : Bool → ℕ
one b = cond b 1 0

-- an item that counts nothing, so many times
pub count_by-replicate-none : {X : Type 0} (p : X → Bool) (n : ℕ) (x : X) → p x ≡ false → count_by p (replicate n x) ≡ 0
count_by-replicate-none p zero x e = refl
count_by-replicate-none p (suc n) x e =
    let none : one (p x) ≡ 0 = ap one e in
    omega (arith, sum_by-cons (λ y. cond (p y) 1 0) x (replicate n x), none, count_by-replicate-none p n x e)

-- no item passes where a search for one fails
pub count_by-none : {X : Type 0} (p : X → Bool) (xs : List X) → list_any p xs ≡ false → count_by p xs ≡ 0
count_by-none p [] e = refl
count_by-none p (x ∷ xs) e =
    let parts = or_parts (p x) (list_any p xs) e in
    let none : one (p x) ≡ 0 = ap one parts.0 in
    omega (arith, sum_by-cons (λ y. cond (p y) 1 0) x xs, none, count_by-none p xs parts.1)

-- Keys below a number, each of which stands once at most.

-- the item's key is this one
abbrev pub has_key : {X : Type 0} → (X → ℕ) → ℕ → X → Bool
has_key key k x = key x == k

-- the item's key is below this number
abbrev pub has_key_below : {X : Type 0} → (X → ℕ) → ℕ → X → Bool
has_key_below key n x = nat_lt (key x) n

key_below_more : (k n : ℕ) → one (nat_lt k (suc n)) ≡ one (nat_lt k n) + one (k == n)
key_below_more k n = grind (arith, nat_tests)

key_below_none : (k : ℕ) → one (nat_lt k 0) ≡ 0
key_below_none k = grind (arith, nat_tests)

key_below_one : (k n : ℕ) → k < n → one (nat_lt k n) ≡ 1
key_below_one k n less = grind (arith, nat_tests)

count_below_none : {X : Type 0} (key : X → ℕ) (xs : List X) → count_by (has_key_below key 0) xs ≡ 0
count_below_none key [] = refl
count_below_none key (x ∷ xs) = omega (arith, sum_by-cons (λ y. cond (has_key_below key 0 y) 1 0) x xs, key_below_none (key x), count_below_none key xs)

count_below_more : {X : Type 0} (key : X → ℕ) (n : ℕ) (xs : List X) → count_by (has_key_below key (suc n)) xs ≡ count_by (has_key_below key n) xs + count_by (has_key key n) xs
count_below_more key n [] = refl
count_below_more key n (x ∷ xs) =
    omega (arith, sum_by-cons (λ y. cond (has_key_below key (suc n) y) 1 0) x xs, sum_by-cons (λ y. cond (has_key_below key n y) 1 0) x xs, sum_by-cons (λ y. cond (has_key key n y) 1 0) x xs, key_below_more (key x) n, count_below_more key n xs)

-- keys below n count to n at most
count_below_le : {X : Type 0} (key : X → ℕ) (xs : List X) → ((k : ℕ) → count_by (has_key key k) xs ≤ 1) → (n : ℕ) → count_by (has_key_below key n) xs ≤ n
count_below_le key xs once zero = omega (arith, count_below_none key xs)
count_below_le key xs once (suc n) = omega (arith, count_below_more key n xs, once n, count_below_le key xs once n)

-- and to fewer where one of them counts nothing
count_below_less : {X : Type 0} (key : X → ℕ) (xs : List X) → ((k : ℕ) → count_by (has_key key k) xs ≤ 1) → (free : ℕ) → count_by (has_key key free) xs ≡ 0 → (n : ℕ) → free < n → count_by (has_key_below key n) xs < n
count_below_less key xs once free none zero less = omega arith
count_below_less key xs once free none (suc n) less =
    elim (cases_lt free n) [
      | inl below ↦ omega (arith, count_below_more key n xs, once n, count_below_less key xs once free none n below)
      | inr above ↦
          let same : free ≡ n = omega arith in
          let last : count_by (has_key key n) xs ≡ 0 = rw (← same) none in
          omega (arith, count_below_more key n xs, last, count_below_le key xs once n)
    ]

count_below_all : {X : Type 0} (key : X → ℕ) (n : ℕ) (xs : List X) → AllByRecursion (λ x. key x < n) xs → count_by (has_key_below key n) xs ≡ length xs
count_below_all key n [] all = refl
count_below_all key n (x ∷ xs) all =
    omega (arith, sum_by-cons (λ y. cond (has_key_below key n y) 1 0) x xs, key_below_one (key x) n all.0, count_below_all key n xs all.1)

-- a list of items with keys below n, each of which stands once at most and one of which is free, has fewer than n items
pub length_below : {X : Type 0} (key : X → ℕ) (n free : ℕ) (xs : List X) → AllByRecursion (λ x. key x < n) xs → ((k : ℕ) → count_by (has_key key k) xs ≤ 1) → free < n → count_by (has_key key free) xs ≡ 0 → length xs < n
length_below key n free xs all once less none =
    omega (arith, count_below_all key n xs all, count_below_less key xs once free none n less)

-- items that are each worth no more in one way than in another
pub sum_by-le-each : {X : Type 0} (f g : X → ℕ) (xs : List X) → AllByRecursion (λ x. f x ≤ g x) xs → sum_by f xs ≤ sum_by g xs
sum_by-le-each f g [] all = omega arith
sum_by-le-each f g (x ∷ xs) all = omega (arith, sum_by-cons f x xs, sum_by-cons g x xs, all.0, sum_by-le-each f g xs all.1)

-- a fact of each item that follows from another
pub each_weaken : {X : Type 0} (P Q : X → Type 0) → ((x : X) → P x → Q x) → (xs : List X) → AllByRecursion P xs → AllByRecursion Q xs
each_weaken P Q follows [] all = tt
each_weaken P Q follows (x ∷ xs) all = (follows x all.0, each_weaken P Q follows xs all.1)

-- the item that a search finds
pub each_found : {X : Type 0} (P : X → Type 0) (p : X → Bool) (xs : List X) (x : X) → find p xs ≡ Some x → AllByRecursion P xs → P x
each_found P p xs x e all = each_at P xs (position_or_len p xs) x (sym (find_at p xs) ∙ e) all

-- two facts of each item
pub each_both : {X : Type 0} (P Q : X → Type 0) (xs : List X) → AllByRecursion P xs → AllByRecursion Q xs → AllByRecursion (λ x. P x × Q x) xs
each_both P Q [] first second = tt
each_both P Q (x ∷ xs) first second = ((first.0, second.0), each_both P Q xs first.1 second.1)

-- a test that each item fails
pub count_by-each-none : {X : Type 0} (p : X → Bool) (xs : List X) → AllByRecursion (λ x. p x ≡ false) xs → count_by p xs ≡ 0
count_by-each-none p [] all = refl
count_by-each-none p (x ∷ xs) all =
    let none : one (p x) ≡ 0 = ap one all.0 in
    omega (arith, sum_by-cons (λ y. cond (p y) 1 0) x xs, none, count_by-each-none p xs all.1)

-- What tests count.

pub one_le : (b d : Bool) → (b ≡ true → d ≡ true) → one b ≤ one d
one_le true d keeps = let is = keeps refl in let value : one d ≡ 1 = ap one is in omega (arith, value)
one_le false d keeps = omega arith

pub one_none : (b : Bool) → b ≡ false → one b ≡ 0
one_none b e = ap one e

pub one_most : (b : Bool) → one b ≤ 1
one_most true = omega arith
one_most false = omega arith

pub same_one : (b d : Bool) → b ≡ d → one b ≤ one d
same_one b d e = let value : one b ≡ one d = ap one e in omega (arith, value)

-- each item changed, with another fact of what it becomes
pub each-map_to : {X : Type 0} (P Q : X → Type 0) (g : X → X) (xs : List X) → ((x : X) → P x → Q (g x)) → AllByRecursion P xs → AllByRecursion Q (map g xs)
each-map_to P Q g [] becomes all = tt
each-map_to P Q g (x ∷ xs) becomes all = (becomes x all.0, each-map_to P Q g xs becomes all.1)
