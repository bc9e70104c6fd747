use Rattle.uv_schema.proofs.Again.{reads_back}
use Rattle.uv_schema.proofs.laws.request_is_read_back.Goals as goal

pub returns : goal.returns
returns c = reads_back
