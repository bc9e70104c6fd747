use Rattle.uv_machine.proofs.Emptied.{teardown_counts}
use Rattle.uv_machine.proofs.laws.removals.teardown_counts.Goals as goal

pub returns : goal.returns
returns c = teardown_counts
