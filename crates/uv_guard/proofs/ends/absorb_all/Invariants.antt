use Rattle.std.proofs.Common.{◌≡◌, ◌++◌, List, length}
use Rattle.uv_num.specs.Each.{Each}
use Rattle.uv_guard.specs.Cells.{tables}
use Rattle.uv_guard.specs.Seated.{Seated, cells_of, all_joined, IsWide, IsOutside}
use Rattle.uv_guard.proofs.ends.absorb_all.Given as goal

abbrev pub invariant-loop-seat : goal.invariant-loop-seat
invariant-loop-seat g l =
    (all_joined l.deeds.items l.seats.items ≡ all_joined l.fn.deeds.items l.fn.seats.items) × (cells_of l.deeds.items ≡ tables l.cells.items) × Each (IsOutside (tables l.cells.items)) l.seats.items
    × ((rest : List (Seated g.row.T.Denot)) × (l.fn.seats.items ≡ l.seats.items ++ rest) × Each IsWide rest)

abbrev pub decreases-loop-seat : goal.decreases-loop-seat
decreases-loop-seat g l = length l.seats.items
