-- First in, first out: what comes goes behind the others, and what leaves is the oldest.
use Rattle.std.specs.Prelude.{List, [], ◌∷◌, ◌++◌, Option, slice_get, drop}

-- the list with an item that came
abbrev pub with_newest : {X : Type 0} → List X → X → List X
with_newest xs x = xs ++ x ∷ []

-- the item that came first of those that are there, if there are any
abbrev pub oldest : {X : Type 0} → List X → Option X
oldest xs = slice_get xs 0

-- the list without its oldest item, which is the list itself where there is none
abbrev pub without_oldest : {X : Type 0} → List X → List X
without_oldest xs = drop 1 xs
