use Rattle.uv_machine.proofs.Planned.{looks_few}
use Rattle.uv_machine.proofs.laws.calls.looks_are_few.Goals as goal

pub returns : goal.returns
returns c = looks_few
