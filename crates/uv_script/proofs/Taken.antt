-- What holds of something that may be there, and of what is taken from the front of words.
use Rattle.std.proofs.Common.{◌≡◌, ℕ, List, [], ◌∷◌, refl, Bool, true, false, cond, Option, Some, None, option_and_then, option_map}
use Rattle.uv_script.specs.Words.{first_as, then_take}

-- Something that may be there.

abbrev pub OfSome : {A : Type 0} → (A → Type 0) → Option A → Type 0
OfSome P None = Unit {0}
OfSome P (Some a) = P a

pub any-of : {A : Type 0} (P : A → Type 0) (o : Option A) → ((a : A) → P a) → OfSome P o
any-of P None each = tt
any-of P (Some a) each = each a

pub choice-of : {A : Type 0} (P : A → Type 0) (b : Bool) (x y : Option A) → (b ≡ true → OfSome P x) → (b ≡ false → OfSome P y) → OfSome P (cond b x y)
choice-of P true x y first second = first refl
choice-of P false x y first second = second refl

pub and_then-of : {A B : Type 0} (P : B → Type 0) (f : A → Option B) (o : Option A) → ((a : A) → OfSome P (f a)) → OfSome P (option_and_then f o)
and_then-of P f None each = tt
and_then-of P f (Some a) each = each a

pub map-of : {A B : Type 0} (P : A → Type 0) (Q : B → Type 0) (f : A → B) (o : Option A) → OfSome P o → ((a : A) → P a → Q (f a)) → OfSome Q (option_map f o)
map-of P Q f None holds each = tt
map-of P Q f (Some a) holds each = each a holds

-- what is made of something that may be anything
pub map-any : {A B : Type 0} (Q : B → Type 0) (f : A → B) (o : Option A) → ((a : A) → Q (f a)) → OfSome Q (option_map f o)
map-any Q f None each = tt
map-any Q f (Some a) each = each a

-- What is taken from the front of words.

abbrev pub OfTaken : {A : Type 0} → (A → Type 0) → Option (A × List (List ℕ)) → Type 0
OfTaken P taken = OfSome (λ t. P t.0) taken

pub first_as-of : {A : Type 0} (P : A → Type 0) (read : List ℕ → Option A) (words : List (List ℕ)) → ((word : List ℕ) → OfSome P (read word)) → OfTaken P (first_as read words)
first_as-of P read [] each = tt
first_as-of P read (word ∷ words) each = map-of P (λ t. P t.0) (λ value. (value, words)) (read word) (each word) (λ a holds. holds)

pub then_take-of : {A B : Type 0} (P : A → Type 0) (Q : B → Type 0) (taken : Option (A × List (List ℕ))) (next : A → List (List ℕ) → Option B) → OfTaken P taken → ((a : A) (rest : List (List ℕ)) → P a → OfSome Q (next a rest)) → OfSome Q (then_take taken next)
then_take-of P Q None next holds each = tt
then_take-of P Q (Some t) next holds each = each t.0 t.1 holds

pub then_take-any : {A B : Type 0} (Q : B → Type 0) (taken : Option (A × List (List ℕ))) (next : A → List (List ℕ) → Option B) → ((a : A) (rest : List (List ℕ)) → OfSome Q (next a rest)) → OfSome Q (then_take taken next)
then_take-any Q None next each = tt
then_take-any Q (Some t) next each = each t.0 t.1
