use Rattle.uv_machine.proofs.Emptied.{sweep_waits}
use Rattle.uv_machine.proofs.laws.removals.sweep_waits.Goals as goal

pub returns : goal.returns
returns c = sweep_waits
