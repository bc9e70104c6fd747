use Rattle.uv_machine.proofs.Asking.{made_by_request}
use Rattle.uv_machine.proofs.laws.objects.made_by_request.Goals as goal

pub returns : goal.returns
returns c = made_by_request
