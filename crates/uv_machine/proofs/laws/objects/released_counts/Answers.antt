use Rattle.uv_machine.proofs.ReleasedKept.{released_counts}
use Rattle.uv_machine.proofs.laws.objects.released_counts.Goals as goal

pub returns : goal.returns
returns c = released_counts
