use Rattle.uv_machine.proofs.Emptied.{sweep_takes_one}
use Rattle.uv_machine.proofs.laws.removals.sweep_takes_one.Goals as goal

pub returns : goal.returns
returns c = sweep_takes_one
