use Rattle.uv_machine.proofs.Fitting.{uses_keep_cell}
use Rattle.uv_machine.proofs.laws.objects.uses_keep_cell.Goals as goal

pub returns : goal.returns
returns c = uses_keep_cell
