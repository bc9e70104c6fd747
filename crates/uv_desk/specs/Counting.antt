-- The counter, the smallest machine.
use Rattle.std.specs.Prelude.{◌≡◌, ◌⊎◌, ℕ, ◌+◌, Option, Some, None, List, [], ◌∷◌, length}
use Rattle.uv_order.specs.Names.{picks}
use Rattle.atomic_table.specs.Seated.{TableId}
use Rattle.uv_num.specs.Each.{Each}
use Rattle.uv_desk.specs.declared.counter.Added.{Added}
use Rattle.uv_desk.specs.Seats.{Placed}

-- each entry names the seat that added
abbrev pub adder : Added → Option ℕ
adder x = Some x.seat

-- how often a seat added
abbrev pub added_by : List Added → ℕ → ℕ
added_by entries n = length (picks adder n entries)

-- one is added, and the answer is the sum; or there is no memory, and nothing is added
abbrev pub counts : List Added → ℕ → ℕ → Unit {0} → Option ℕ → List Added → ℕ → Type 0
counts entries seat before input answer made behind =
    ((answer ≡ Some (length entries + 1)) × (made ≡ record { seat = seat } ∷ []) × (behind ≡ before + 1)) ⊎ ((answer ≡ None) × (made ≡ []) × (behind ≡ before))

-- a seat of this desk, which knows how often it added
abbrev pub CanAdd : TableId → Placed Added ℕ → Type 0
CanAdd desk seat = (seat.desk ≡ desk) × ((added : ℕ) × (seat.own ≡ Some added))

-- what each seat knows is how often it added
abbrev pub AreCounted : List Added → List (Placed Added ℕ) → Type 0
AreCounted entries seats = Each (λ (s : Placed Added ℕ). s.own ≡ Some (added_by entries s.number)) seats
