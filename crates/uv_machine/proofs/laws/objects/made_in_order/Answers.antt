use Rattle.uv_machine.proofs.MadeKept.{made_in_order}
use Rattle.uv_machine.proofs.laws.objects.made_in_order.Goals as goal

pub returns : goal.returns
returns c = made_in_order
