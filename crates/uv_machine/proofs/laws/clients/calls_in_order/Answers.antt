use Rattle.uv_machine.proofs.Clients.{calls_in_order}
use Rattle.uv_machine.proofs.laws.clients.calls_in_order.Goals as goal

pub returns : goal.returns
returns c = calls_in_order
