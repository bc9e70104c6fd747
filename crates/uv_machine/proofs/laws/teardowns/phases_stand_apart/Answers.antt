use Rattle.uv_machine.proofs.Phases.{phase_of-after}
use Rattle.uv_machine.proofs.laws.teardowns.phases_stand_apart.Goals as goal

pub returns : goal.returns
returns c = phase_of-after
