use Rattle.uv_machine.proofs.Rounds.{cells_go_round}
use Rattle.uv_machine.proofs.laws.cells.cells_go_round.Goals as goal

pub returns : goal.returns
returns c = cells_go_round
