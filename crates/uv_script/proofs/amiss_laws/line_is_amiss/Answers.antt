use Rattle.uv_script.proofs.AmissLaws.{line-amiss}
use Rattle.uv_script.proofs.amiss_laws.line_is_amiss.Goals as goal

pub returns : goal.returns
returns c = line-amiss
