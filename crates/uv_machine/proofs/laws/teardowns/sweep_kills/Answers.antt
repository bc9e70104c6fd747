use Rattle.uv_machine.proofs.Sweeping.{may_kill-swept}
use Rattle.uv_machine.proofs.laws.teardowns.sweep_kills.Goals as goal

pub returns : goal.returns
returns c = may_kill-swept
