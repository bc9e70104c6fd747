-- Changes at one place, of a list and of a function of numbers.
use Rattle.std.specs.Prelude.{ℕ, ◌+◌, Bool, List, [], ◌∷◌, Option, Some, None, slice_get, slice_set, ◌==◌, if◌then◌else◌}

-- the list with this item in a change at its place, if there is one
abbrev pub changed_item : {X : Type 0} → List X → ℕ → (X → X) → Option X → List X
changed_item xs at f None = xs
changed_item xs at f (Some x) = slice_set xs at (f x)

-- the list with the item at a place changed, which is the list itself where there is no such place
abbrev pub at_place : {X : Type 0} → List X → ℕ → (X → X) → List X
at_place xs at f = changed_item xs at f (slice_get xs at)

-- the function with another value at one number
abbrev pub changed : {X : Type 0} → (ℕ → X) → ℕ → X → ℕ → X
changed f at value n = if n == at then value else f n

-- the places, counted from a first one, at which an item passes a test
abbrev pub places_from : {X : Type 0} → ℕ → (X → Bool) → List X → List ℕ
places_from first p [] = []
places_from first p (x ∷ xs) = if p x then first ∷ places_from (first + 1) p xs else places_from (first + 1) p xs

-- the places at which an item passes a test, in order
abbrev pub places_of : {X : Type 0} → (X → Bool) → List X → List ℕ
places_of p xs = places_from 0 p xs
