use Rattle.uv_machine.proofs.Counting.{lives_count}
use Rattle.uv_machine.proofs.laws.cells.lives_count.Goals as goal

pub returns : goal.returns
returns c = lives_count
