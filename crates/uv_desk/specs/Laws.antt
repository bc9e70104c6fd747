-- When a list of seats is all of a desk's.
use Rattle.std.specs.Prelude.{◌≡◌, ℕ, ◌<◌, List, map, IsPermutation}
use Rattle.atomic_table.specs.Seated.{TableId}
use Rattle.uv_desk.specs.Seats.{Placed, IsAll, all_fresh}

-- what no turn and no meeting of a seat changes: its desk, its number, and how many seats it knows of
abbrev pub place : {E O : Type 0} → Placed E O → TableId × ℕ × ℕ
place s = (s.desk, s.number, s.count)

-- the seats of a new desk are all of its seats
abbrev pub NewAreAll : Type 0 → Type 0 → Type 0
NewAreAll E O = (desk : TableId) (count : ℕ) (history : List E) (own : ℕ → O) → 0 < count → IsAll desk (all_fresh desk count history own)

-- seats that have the places of all are all
abbrev pub PlacesAreAll : Type 0 → Type 0 → Type 0
PlacesAreAll E O = (desk : TableId) (before after : List (Placed E O)) → map place after ≡ map place before → IsAll desk before → IsAll desk after

-- all seats in another order are all
abbrev pub AnyOrderIsAll : Type 0 → Type 0 → Type 0
AnyOrderIsAll E O = (desk : TableId) (before after : List (Placed E O)) → IsPermutation before after → IsAll desk before → IsAll desk after
