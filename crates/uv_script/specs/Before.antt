-- What the lines in front of a line leave for it.
use Rattle.std.specs.Prelude.{ℕ, Bool, List, [], nat_eq}
use Rattle.std.specs.List.{list_any}
use Rattle.uv_script.specs.Names.{Look, no_names}

-- the line's number, the names that are declared, and the clients that died, the first one first
pub record Before : Type 0 where
  pub number : ℕ
  pub look : Look
  pub dead : List ℕ

-- the first line has nothing in front
abbrev pub at_start : Before
at_start = record { number = 1; look = no_names; dead = [] }

-- an actor that died: no line of it is in the language
abbrev pub is_dead : Before → ℕ → Bool
is_dead before actor = list_any (nat_eq actor) before.dead
