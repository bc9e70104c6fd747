use Rattle.uv_machine.proofs.MadeKept.{keeps_cell}
use Rattle.uv_machine.proofs.laws.objects.keeps_cell.Goals as goal

pub returns : goal.returns
returns c = keeps_cell
