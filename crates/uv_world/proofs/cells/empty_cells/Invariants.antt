use Rattle.std.proofs.Common.{◌≡◌, replicate}
use Rattle.uv_world.specs.Celled.{empty_cell}
use Rattle.uv_world.proofs.cells.empty_cells.Given as goal

abbrev pub invariant-loop-turn : goal.invariant-loop-turn
invariant-loop-turn g l = l.cells ≡ replicate l._turn empty_cell
