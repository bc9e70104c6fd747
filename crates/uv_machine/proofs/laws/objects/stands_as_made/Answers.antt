use Rattle.uv_machine.proofs.MadeKept.{stands_as_made}
use Rattle.uv_machine.proofs.laws.objects.stands_as_made.Goals as goal

pub returns : goal.returns
returns c = stands_as_made
