use Rattle.uv_machine.proofs.Sweeping.{may_go-killed}
use Rattle.uv_machine.proofs.laws.teardowns.sweep_releases.Goals as goal

pub returns : goal.returns
returns c = may_go-killed
