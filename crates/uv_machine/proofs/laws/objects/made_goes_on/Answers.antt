use Rattle.uv_machine.proofs.MadeKept.{made_goes_on}
use Rattle.uv_machine.proofs.laws.objects.made_goes_on.Goals as goal

pub returns : goal.returns
returns c = made_goes_on
