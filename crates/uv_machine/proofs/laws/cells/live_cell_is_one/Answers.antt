use Rattle.uv_machine.proofs.ReleasedKept.{live_cell_is_one}
use Rattle.uv_machine.proofs.laws.cells.live_cell_is_one.Goals as goal

pub returns : goal.returns
returns c = live_cell_is_one
