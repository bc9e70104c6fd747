use Rattle.uv_machine.proofs.Counting.{last_life}
use Rattle.uv_machine.proofs.laws.cells.last_life.Goals as goal

pub returns : goal.returns
returns c = last_life
