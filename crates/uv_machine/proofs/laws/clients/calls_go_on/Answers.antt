use Rattle.uv_machine.proofs.Clients.{calls_go_on}
use Rattle.uv_machine.proofs.laws.clients.calls_go_on.Goals as goal

pub returns : goal.returns
returns c = calls_go_on
