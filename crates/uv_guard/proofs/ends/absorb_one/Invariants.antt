use Rattle.std.proofs.Common.{◌≡◌, ◌++◌, List, map, length}
use Rattle.std.specs.Prelude.{None}
use Rattle.atomic_table.specs.Seated.{TableId}
use Rattle.uv_num.specs.Each.{Each}
use Rattle.uv_guard.specs.Cells.{tables}
use Rattle.uv_guard.specs.Seated.{cells_of, kepts, kept_by, joined_with}
use Rattle.uv_guard.proofs.ends.absorb_one.Given as goal

abbrev pub invariant-loop-place : goal.invariant-loop-place
invariant-loop-place g l =
    (joined_with l.deeds.items (map kept_by l.places.items) ≡ joined_with l.fn.deeds.items (kepts l.fn.seat)) × (cells_of l.deeds.items ≡ tables l.cells.items)
    × Each (λ p. p.held ≡ None) l.places.items × ((rest : List TableId) × (tables l.cells.items ≡ map (λ p. p.cell) l.places.items ++ rest))

abbrev pub decreases-loop-place : goal.decreases-loop-place
decreases-loop-place g l = length l.places.items
