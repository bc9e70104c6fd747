use Rattle.uv_machine.proofs.Spent.{spent_is_last}
use Rattle.uv_machine.proofs.laws.cells.spent_is_last.Goals as goal

pub returns : goal.returns
returns c = spent_is_last
