-- Short lists of ids.
use Rattle.std.specs.Prelude.{ℕ, Bool, List, [], ◌∷◌, ◌==◌}
use Rattle.uv_num.specs.declared.ids.Ids.{Ids}
use Rattle.uv_num.specs.declared.ids.Ids.TheVariants.{Empty, One, Two, Three, Four}

-- the ids, in order
abbrev pub ids_of : Ids → List ℕ
ids_of Empty = []
ids_of (One a) = a ∷ []
ids_of (Two a b) = a ∷ b ∷ []
ids_of (Three a b c) = a ∷ b ∷ c ∷ []
ids_of (Four a b c d) = a ∷ b ∷ c ∷ d ∷ []

-- the ids with one more behind them; four have no room for another
abbrev pub ids_and : Ids → ℕ → Ids
ids_and Empty n = One n
ids_and (One a) n = Two a n
ids_and (Two a b) n = Three a b n
ids_and (Three a b c) n = Four a b c n
ids_and (Four a b c d) n = Four a b c d

-- the ids behind the first one
abbrev pub ids_behind : Ids → Ids
ids_behind Empty = Empty
ids_behind (One a) = Empty
ids_behind (Two a b) = One b
ids_behind (Three a b c) = Two b c
ids_behind (Four a b c d) = Three b c d

-- the first id alone
abbrev pub first_alone : Ids → Ids
first_alone Empty = Empty
first_alone (One a) = One a
first_alone (Two a b) = One a
first_alone (Three a b c) = One a
first_alone (Four a b c d) = One a

-- whether a number is this one
abbrev pub is_number : ℕ → ℕ → Bool
is_number wanted n = n == wanted
