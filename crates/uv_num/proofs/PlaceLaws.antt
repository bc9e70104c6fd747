-- Laws of changes at one place.
use Rattle.std.proofs.Common.{get_or, set, ◌+◌, ◌≡◌, ◌≢◌, ℕ, zero, suc, List, [], ◌∷◌, length, Option, Some, None, refl, ap, sym, ◌∙◌, subst, inl, inr}
use Rattle.std.proofs.lemmas.Option.{get_or_from_slice_get, slice_get_within}
use Rattle.std.proofs.lemmas.List.Sums.{sum_by-set}
use Rattle.std.proofs.lemmas.Bool.{eq-eqb}
use Rattle.std.proofs.lemmas.Bool.Decides.{eqb_tells}
use Rattle.std.specs.Prelude.{sum_by, map, slice_get, slice_set, option_map, if◌then◌else◌}
use Rattle.uv_num.specs.Place.{at_place, changed_item, changed}

-- a change at a place inside the list is a write there
pub at_place_write : {X : Type 0} (xs : List X) (at : ℕ) (f : X → X) (x : X) → slice_get xs at ≡ Some x → at_place xs at f ≡ slice_set xs at (f x)
at_place_write xs at f x e = ap (λ o. changed_item xs at f o) e

-- a change past the end changes nothing
pub at_place_past : {X : Type 0} (xs : List X) (at : ℕ) (f : X → X) → slice_get xs at ≡ None → at_place xs at f ≡ xs
at_place_past xs at f e = ap (λ o. changed_item xs at f o) e

-- one place further, a change leaves the first item
pub at_place-cons : {X : Type 0} (x : X) (xs : List X) (at : ℕ) (f : X → X) → at_place (x ∷ xs) (suc at) f ≡ x ∷ at_place xs at f
at_place-cons x xs at f =
    let go : (o : Option _) → changed_item (x ∷ xs) (suc at) f o ≡ x ∷ changed_item xs at f o = λ o. elim o as (λ v. changed_item (x ∷ xs) (suc at) f v ≡ x ∷ changed_item xs at f v) [ None ↦ refl | Some y ↦ refl ] in
    go (slice_get xs at)

-- a change keeps the length
pub length-at_place : {X : Type 0} (xs : List X) (at : ℕ) (f : X → X) → length (at_place xs at f) ≡ length xs
length-at_place [] at f = refl
length-at_place (x ∷ xs) zero f = refl
length-at_place (x ∷ xs) (suc at) f = ap length (at_place-cons x xs at f) ∙ ap suc (length-at_place xs at f)

-- what stands at the place of a change
pub slice_get-at_place_same : {X : Type 0} (xs : List X) (at : ℕ) (f : X → X) → slice_get (at_place xs at f) at ≡ option_map f (slice_get xs at)
slice_get-at_place_same [] at f = refl
slice_get-at_place_same (x ∷ xs) zero f = refl
slice_get-at_place_same (x ∷ xs) (suc at) f =
    ap (λ v. slice_get v (suc at)) (at_place-cons x xs at f) ∙ slice_get-at_place_same xs at f

-- what stands at another place stays
pub slice_get-at_place_other : {X : Type 0} (xs : List X) (at k : ℕ) (f : X → X) → k ≢ at → slice_get (at_place xs at f) k ≡ slice_get xs k
slice_get-at_place_other [] at k f other = refl
slice_get-at_place_other (x ∷ xs) zero zero f other = absurd (other refl)
slice_get-at_place_other (x ∷ xs) zero (suc k) f other = refl
slice_get-at_place_other (x ∷ xs) (suc at) zero f other = ap (λ v. slice_get v zero) (at_place-cons x xs at f)
slice_get-at_place_other (x ∷ xs) (suc at) (suc k) f other =
    ap (λ v. slice_get v (suc k)) (at_place-cons x xs at f) ∙ slice_get-at_place_other xs at k f (λ e. other (ap suc e))

-- two changes at one place are one change
pub at_place-at_place : {X : Type 0} (xs : List X) (at : ℕ) (f g : X → X) → at_place (at_place xs at f) at g ≡ at_place xs at (λ x. g (f x))
at_place-at_place [] at f g = refl
at_place-at_place (x ∷ xs) zero f g = refl
at_place-at_place (x ∷ xs) (suc at) f g =
    ap (λ v. at_place v (suc at) g) (at_place-cons x xs at f)
    ∙ (at_place-cons x (at_place xs at f) at g ∙ (ap (λ v. x ∷ v) (at_place-at_place xs at f g) ∙ sym (at_place-cons x xs at (λ y. g (f y)))))

-- a sum after a change at a place
pub sum_by-at_place : {X : Type 0} (g : X → ℕ) (xs : List X) (at : ℕ) (f : X → X) (x : X) → slice_get xs at ≡ Some x → sum_by g (at_place xs at f) + g x ≡ sum_by g xs + g (f x)
sum_by-at_place g xs at f x is =
    let read : get_or xs at x ≡ x = get_or_from_slice_get xs at x x is in
    ap (λ v. sum_by g v + g x) (at_place_write xs at f x is)
    ∙ (ap (λ v. sum_by g (set xs at (f x)) + g v) (sym read) ∙ sum_by-set g xs at (f x) x (slice_get_within xs at x is))

-- what a function reads of each item, after a change that leaves it as it was
pub map-at_place : {X Y : Type 0} (g : X → Y) (xs : List X) (at : ℕ) (f : X → X) → ((x : X) → g (f x) ≡ g x) → map g (at_place xs at f) ≡ map g xs
map-at_place g [] at f keeps = refl
map-at_place g (x ∷ xs) zero f keeps = ap (λ v. v ∷ map g xs) (keeps x)
map-at_place g (x ∷ xs) (suc at) f keeps =
    ap (λ v. map g v) (at_place-cons x xs at f) ∙ ap (λ v. g x ∷ v) (map-at_place g xs at f keeps)

-- a changed function at the number that was changed
pub changed_same : {X : Type 0} (f : ℕ → X) (at : ℕ) (value : X) → changed f at value at ≡ value
changed_same f at value = ap (λ b. if b then value else f at) (eq-eqb at at refl)

-- a changed function at another number
pub changed_other : {X : Type 0} (f : ℕ → X) (at : ℕ) (value : X) (n : ℕ) → n ≢ at → changed f at value n ≡ f n
changed_other f at value n other =
    elim (eqb_tells n at) [ inl same ↦ absurd (other same.1) | inr apart ↦ ap (λ b. if b then value else f n) apart.0 ]

-- a fact of a changed function: of the value at the number, and of the function elsewhere
pub changed_elim : {X : Type 0} (P : ℕ → X → Type 0) (f : ℕ → X) (at : ℕ) (value : X) → P at value → ((n : ℕ) → n ≢ at → P n (f n)) → (n : ℕ) → P n (changed f at value n)
changed_elim {X} P f at value here elsewhere n =
    let here_at : (m : ℕ) → m ≡ at → P m value = λ m e. (let Q : ℕ → Type 0 = λ k. P k value in subst Q (sym e) here) in
    let Q : X → Type 0 = λ v. P n v in
    elim (eqb_tells n at) [
      | inl same ↦ subst Q (sym (ap (λ b. if b then value else f n) same.0)) (here_at n same.1)
      | inr apart ↦ subst Q (sym (ap (λ b. if b then value else f n) apart.0)) (elsewhere n apart.1)
    ]
