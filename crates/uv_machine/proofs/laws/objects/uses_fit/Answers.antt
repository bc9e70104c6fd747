use Rattle.uv_machine.proofs.Fitting.{uses_fit}
use Rattle.uv_machine.proofs.laws.objects.uses_fit.Goals as goal

pub returns : goal.returns
returns c = uses_fit
