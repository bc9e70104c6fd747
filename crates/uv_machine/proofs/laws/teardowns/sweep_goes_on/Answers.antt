use Rattle.uv_machine.proofs.Sweeping.{IsSwept-turn}
use Rattle.uv_machine.proofs.laws.teardowns.sweep_goes_on.Goals as goal

pub returns : goal.returns
returns c = IsSwept-turn
