use Rattle.uv_machine.proofs.MadeKept.{made_counts}
use Rattle.uv_machine.proofs.laws.objects.made_counts.Goals as goal

pub returns : goal.returns
returns c = made_counts
