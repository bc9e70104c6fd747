use Rattle.uv_run.proofs.Determined.{record_told}
use Rattle.uv_run.proofs.laws.record_is_told.Goals as goal

pub returns : goal.returns
returns c = record_told
