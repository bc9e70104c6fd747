-- A change of each item of a list in place, one item after another.
use Rattle.std.proofs.Common.{◌≡◌, ℕ, ◌+◌, ◌<◌, List, ◌++◌, length, take, drop, map, set, get_or, ap, sym, ◌∙◌, arith, length-append, length-drop}
use Rattle.std.proofs.lemmas.List.{length-map, length-take, get_or_default}
use Rattle.std.proofs.lemmas.List.Edits.{map_over_more}

-- one more item: d was read at place i, and f of it was written there
pub map_step : {X : Type 0} (f : X → X) (xs ys : List X) (i : ℕ) (d y : X) → i < length xs → ys ≡ map f (take i xs) ++ drop i xs → d ≡ get_or ys i d → y ≡ f (get_or ys i d) → set ys i y ≡ map f (take (i + 1) xs) ++ drop (i + 1) xs
map_step f xs ys i d y le so_far read e =
    ap (λ v. set ys i v) (e ∙ ap f (sym read)) ∙ map_over_more f xs ys i d le so_far read

-- the list so far is as long as the list
length_so_far : {X : Type 0} (f : X → X) (xs ys : List X) (i : ℕ) → i < length xs → ys ≡ map f (take i xs) ++ drop i xs → length ys ≡ length xs
length_so_far {X} f xs ys i le so_far =
    let whole : length ys ≡ length (map f (take i xs) ++ drop i xs) = ap length so_far in
    omega (arith, whole, length-append (map f (take i xs)) (drop i xs), length-map (take i xs) f, length-take i xs, length-drop i xs)

-- the same of items that are copied as they are read, at any default d
pub map_step_copied : {X : Type 0} (f : X → X) (xs ys : List X) (i : ℕ) (d y : X) → i < length xs → ys ≡ map f (take i xs) ++ drop i xs → y ≡ f (get_or ys i d) → set ys i y ≡ map f (take (i + 1) xs) ++ drop (i + 1) xs
map_step_copied f xs ys i d y le so_far e =
    let inside : i < length ys = omega (arith, length_so_far f xs ys i le so_far) in
    map_step f xs ys i (get_or ys i d) y le so_far (get_or_default ys i d (get_or ys i d) inside)
    (e ∙ ap f (get_or_default ys i d (get_or ys i d) inside))
