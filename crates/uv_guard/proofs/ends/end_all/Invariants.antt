use Rattle.std.proofs.Common.{◌≡◌, ◌++◌, List, length}
use Rattle.uv_num.specs.Each.{Each}
use Rattle.uv_guard.specs.Cells.{tables}
use Rattle.uv_guard.specs.Closed.{IsAtRest, IsBalanced}
use Rattle.uv_guard.specs.Seated.{Deeded, cells_of}
use Rattle.uv_guard.proofs.ends.end_all.Given as goal

abbrev pub invariant-loop-cell : goal.invariant-loop-cell
invariant-loop-cell g l =
    (cells_of l.deeds.items ≡ tables l.cells.items) × Each (λ d. IsAtRest d.stage) l.deeds.items
    × ((rest : List (Deeded g.row.T.Denot)) × (l.fn.deeds.items ≡ l.deeds.items ++ rest) × Each (IsBalanced g.T.Celled.goes_on) rest)

abbrev pub decreases-loop-cell : goal.decreases-loop-cell
decreases-loop-cell g l = length l.cells.items
