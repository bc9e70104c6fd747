use Rattle.uv_machine.proofs.Asking.{stands_by_request}
use Rattle.uv_machine.proofs.laws.objects.stands_by_request.Goals as goal

pub returns : goal.returns
returns c = stands_by_request
