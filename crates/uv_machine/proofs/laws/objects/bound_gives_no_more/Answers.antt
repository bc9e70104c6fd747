use Rattle.uv_machine.proofs.Fitting.{bound_gives_no_more}
use Rattle.uv_machine.proofs.laws.objects.bound_gives_no_more.Goals as goal

pub returns : goal.returns
returns c = bound_gives_no_more
