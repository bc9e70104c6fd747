use Rattle.uv_region.proofs.Journaling.{written_there}
use Rattle.uv_region.proofs.laws.written_stands.Goals as goal

pub returns : goal.returns
returns c = written_there
