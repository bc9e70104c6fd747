-- What a turn asks and tells.
use Rattle.std.specs.Prelude.{◌≡◌, ℕ, ◌≤◌, List, ◌++◌, length, Option, Some}
use Rattle.uv_order.specs.declared.signed.Signed.{Signed}
use Rattle.uv_order.specs.Signed.{entries, sign, Silent}
use Rattle.uv_order.specs.Names.{AreNamed}

-- the seat knows its own part, and that allows the input
abbrev pub MayMeet : {O I : Type 0} → (O → I → Type 0) → Option O → I → Type 0
MayMeet {O} may own input = (o : O) × (own ≡ Some o) × may o input

-- the machine's answer at a place of the history that begins with all that the seat had seen
pub record Answer {E O I U : Type 0} (answers : List E → ℕ → O → I → U → List E → O → Type 0) (names : E → Option ℕ) (number : ℕ) (seen : List (Signed E)) (own : Option O) (input : I) (output : U) (seen' : List (Signed E)) (own' : Option O) : Type 0 where
  -- what others made since the seat's last turn or meeting
  pub between : List (Signed E)
  -- what this turn made
  pub made : List E
  -- the seat's own part before and after
  pub before : O
  pub behind : O
  pub own_was : own ≡ Some before
  pub own_is : own' ≡ Some behind
  pub few : length made ≤ 1
  pub silent : Silent number between
  pub seen_is : seen' ≡ (seen ++ between) ++ sign number made
  pub named : AreNamed names seen'
  pub answered : answers (entries (seen ++ between)) number before input output made behind
