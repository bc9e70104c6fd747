use Rattle.uv_machine.proofs.Counting.{cell_is_one}
use Rattle.uv_machine.proofs.laws.cells.cell_is_one.Goals as goal

pub returns : goal.returns
returns c = cell_is_one
