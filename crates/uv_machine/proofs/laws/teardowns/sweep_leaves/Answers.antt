use Rattle.uv_machine.proofs.Sweeping.{may_dissociate-swept}
use Rattle.uv_machine.proofs.laws.teardowns.sweep_leaves.Goals as goal

pub returns : goal.returns
returns c = may_dissociate-swept
