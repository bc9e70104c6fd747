use Rattle.uv_machine.proofs.Apart.{call_of-after}
use Rattle.uv_machine.proofs.laws.calls.calls_stand_apart.Goals as goal

pub returns : goal.returns
returns c = call_of-after
