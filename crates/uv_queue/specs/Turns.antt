-- What comes and leaves over many turns: nothing is lost, doubled or overtaken.
use Rattle.std.specs.Prelude.{List, [], ◌∷◌, ◌++◌, ◌≡◌}
use Rattle.std.specs.Option.{option_to_list}
use Rattle.uv_queue.specs.Order.{with_newest, oldest, without_oldest}

-- an item comes, or the oldest leaves if there is one
pub data Turn (X : Type 0) : Type 0 where
  Comes : X → Turn X
  Leaves : Turn X

-- what came in these turns, in order
abbrev pub came_in : {X : Type 0} → List (Turn X) → List X
came_in [] = []
came_in (Comes x ∷ turns) = x ∷ came_in turns
came_in (Leaves ∷ turns) = came_in turns

-- what left in these turns, in order, from what stood before them
abbrev pub left_in : {X : Type 0} → List X → List (Turn X) → List X
left_in xs [] = []
left_in xs (Comes x ∷ turns) = left_in (with_newest xs x) turns
left_in xs (Leaves ∷ turns) = option_to_list (oldest xs) ++ left_in (without_oldest xs) turns

-- what stands behind these turns
abbrev pub stands_after : {X : Type 0} → List X → List (Turn X) → List X
stands_after xs [] = xs
stands_after xs (Comes x ∷ turns) = stands_after (with_newest xs x) turns
stands_after xs (Leaves ∷ turns) = stands_after (without_oldest xs) turns

-- what left and then what stands is what stood and then what came
abbrev pub IsInOrder : {X : Type 0} → List X → List (Turn X) → Type 0
IsInOrder xs turns = left_in xs turns ++ stands_after xs turns ≡ xs ++ came_in turns
