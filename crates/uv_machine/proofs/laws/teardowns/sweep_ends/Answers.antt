use Rattle.uv_machine.proofs.Sweeping.{may_close-swept}
use Rattle.uv_machine.proofs.laws.teardowns.sweep_ends.Goals as goal

pub returns : goal.returns
returns c = may_close-swept
