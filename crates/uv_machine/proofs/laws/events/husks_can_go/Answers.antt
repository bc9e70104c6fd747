use Rattle.uv_machine.proofs.HusksGo.{husks_can_go}
use Rattle.uv_machine.proofs.laws.events.husks_can_go.Goals as goal

pub returns : goal.returns
returns c = husks_can_go
