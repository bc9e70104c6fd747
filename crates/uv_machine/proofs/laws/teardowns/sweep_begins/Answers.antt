use Rattle.uv_machine.proofs.Sweeping.{IsSwept-tear}
use Rattle.uv_machine.proofs.laws.teardowns.sweep_begins.Goals as goal

pub returns : goal.returns
returns c = IsSwept-tear
