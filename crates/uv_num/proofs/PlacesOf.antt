-- Laws of the places at which a value stands.
use Rattle.std.proofs.Common.{◌≡◌, ℕ, suc, ◌+◌, Bool, true, false, List, [], ◌∷◌, ◌++◌, length, ap, sym, ◌∙◌, arith, add-zero, zero-add}
use Rattle.std.specs.Prelude.{if◌then◌else◌}
use Rattle.uv_num.specs.Place.{places_from, places_of}

-- one place more in front of both sides
front_more : (b : Bool) (n : ℕ) (before after behind : List ℕ) → after ≡ before ++ behind → (if b then n ∷ after else after) ≡ (if b then n ∷ before else before) ++ behind
front_more true n before after behind e = ap (λ v. n ∷ v) e
front_more false n before after behind e = e

-- an item that passes stands behind the others
pub places_from-push_yes : {X : Type 0} (n : ℕ) (p : X → Bool) (xs : List X) (y : X) → p y ≡ true → places_from n p (xs ++ y ∷ []) ≡ places_from n p xs ++ (n + length xs) ∷ []
places_from-push_yes n p [] y passes =
    ap (λ b. if b then n ∷ [] else []) passes ∙ ap (λ k. k ∷ []) (sym (add-zero n))
places_from-push_yes n p (x ∷ xs) y passes =
    let place : n + 1 + length xs ≡ n + suc (length xs) = omega arith in
    front_more (p x) n (places_from (n + 1) p xs) (places_from (n + 1) p (xs ++ y ∷ [])) ((n + suc (length xs)) ∷ [])
    (places_from-push_yes (n + 1) p xs y passes ∙ ap (λ k. places_from (n + 1) p xs ++ k ∷ []) place)

-- an item that does not pass stands nowhere
pub places_from-push_no : {X : Type 0} (n : ℕ) (p : X → Bool) (xs : List X) (y : X) → p y ≡ false → places_from n p (xs ++ y ∷ []) ≡ places_from n p xs
places_from-push_no n p [] y fails = ap (λ b. if b then n ∷ [] else []) fails
places_from-push_no n p (x ∷ xs) y fails =
    ap (λ v. if p x then n ∷ v else v) (places_from-push_no (n + 1) p xs y fails)

-- one more item that passes
pub places_of-push_yes : {X : Type 0} (p : X → Bool) (xs : List X) (y : X) → p y ≡ true → places_of p (xs ++ y ∷ []) ≡ places_of p xs ++ length xs ∷ []
places_of-push_yes p xs y passes =
    places_from-push_yes 0 p xs y passes ∙ ap (λ k. places_of p xs ++ k ∷ []) (zero-add (length xs))

-- one more item that does not pass
pub places_of-push_no : {X : Type 0} (p : X → Bool) (xs : List X) (y : X) → p y ≡ false → places_of p (xs ++ y ∷ []) ≡ places_of p xs
places_of-push_no p xs y fails = places_from-push_no 0 p xs y fails
