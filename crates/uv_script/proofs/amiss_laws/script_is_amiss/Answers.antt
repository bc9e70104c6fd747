use Rattle.uv_script.proofs.AmissLaws.{script-amiss}
use Rattle.uv_script.proofs.amiss_laws.script_is_amiss.Goals as goal

pub returns : goal.returns
returns c = script-amiss
