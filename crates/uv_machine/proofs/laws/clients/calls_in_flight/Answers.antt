use Rattle.uv_machine.proofs.Clients.{calls_in_flight}
use Rattle.uv_machine.proofs.laws.clients.calls_in_flight.Goals as goal

pub returns : goal.returns
returns c = calls_in_flight
