use Rattle.uv_run.proofs.Cutting.{marks_cut}
use Rattle.uv_run.proofs.laws.marks_are_cuts.Goals as goal

pub returns : goal.returns
returns c = marks_cut
