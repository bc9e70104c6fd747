-- Lists that only grow.
use Rattle.std.specs.Prelude.{List, ◌++◌, ◌≡◌}

-- the second list goes on where the first one ends
pub record IsPrefix {X : Type 0} (xs ys : List X) : Type 0 where
  pub rest : List X
  pub goes_on : ys ≡ xs ++ rest
