use Rattle.uv_machine.proofs.Phases.{phase_of-opened}
use Rattle.uv_machine.proofs.laws.teardowns.open_is_open.Goals as goal

pub returns : goal.returns
returns c = phase_of-opened
