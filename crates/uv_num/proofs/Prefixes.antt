-- Laws of lists that only grow.
use Rattle.std.proofs.Common.{◌≡◌, ℕ, zero, suc, ◌≤◌, List, [], ◌∷◌, ◌++◌, length, take, drop, refl, ap, sym, ◌∙◌, append_assoc, Some}
use Rattle.std.specs.Prelude.{slice_get}
use Rattle.std.proofs.lemmas.List.{append-nil, take_at, take-take, take-append-drop}
use Rattle.std.proofs.lemmas.List.Prefix.{front_fits}
use Rattle.uv_num.specs.Prefix.{IsPrefix}

-- a list is a prefix of itself
pub IsPrefix_refl : {X : Type 0} (xs : List X) → IsPrefix xs xs
IsPrefix_refl xs = record { rest = []; goes_on = sym (append-nil xs) }

-- a list is a prefix of what is made by putting more behind it
pub IsPrefix-append : {X : Type 0} (xs more : List X) → IsPrefix xs (xs ++ more)
IsPrefix-append xs more = record { rest = more; goes_on = refl }

-- a prefix of a prefix
pub IsPrefix_trans : {X : Type 0} (xs ys zs : List X) → IsPrefix xs ys → IsPrefix ys zs → IsPrefix xs zs
IsPrefix_trans xs ys zs p q = record {
  rest = p.rest ++ q.rest;
  goes_on = q.goes_on ∙ (ap (λ v. v ++ q.rest) p.goes_on ∙ append_assoc xs p.rest q.rest);
}

-- a prefix is not longer
pub length-IsPrefix : {X : Type 0} (xs ys : List X) → IsPrefix xs ys → length xs ≤ length ys
length-IsPrefix xs ys p = front_fits ys xs p.rest p.goes_on

-- a prefix is the front of its length
pub take-IsPrefix : {X : Type 0} (xs ys : List X) → IsPrefix xs ys → take (length xs) ys ≡ xs
take-IsPrefix xs ys p = ap (λ v. take (length xs) v) p.goes_on ∙ take_at xs p.rest (length xs) refl

-- the shorter of two prefixes of one list is a prefix of the longer
pub IsPrefix_shorter : {X : Type 0} (xs ys zs : List X) → IsPrefix xs zs → IsPrefix ys zs → length xs ≤ length ys → IsPrefix xs ys
IsPrefix_shorter xs ys zs p q shorter =
    let front : take (length xs) ys ≡ xs = ap (λ v. take (length xs) v) (sym (take-IsPrefix ys zs q)) ∙ (take-take (length xs) (length ys) zs shorter ∙ take-IsPrefix xs zs p) in
    record {
      rest = drop (length xs) ys;
      goes_on = sym (take-append-drop (length xs) ys) ∙ ap (λ v. v ++ drop (length xs) ys) front;
    }

-- what stands at a place stays there in a list that goes on
pub slice_get-append_left : {X : Type 0} (xs more : List X) (k : ℕ) (x : X) → slice_get xs k ≡ Some x → slice_get (xs ++ more) k ≡ Some x
slice_get-append_left [] more k x e = cc
slice_get-append_left (y ∷ xs) more zero x e = e
slice_get-append_left (y ∷ xs) more (suc k) x e = slice_get-append_left xs more k x e

-- what stands at a place of a prefix stands there in the longer list
pub slice_get-IsPrefix : {X : Type 0} (xs ys : List X) → IsPrefix xs ys → (k : ℕ) (x : X) → slice_get xs k ≡ Some x → slice_get ys k ≡ Some x
slice_get-IsPrefix xs ys p k x e = ap (λ v. slice_get v k) p.goes_on ∙ slice_get-append_left xs p.rest k x e
