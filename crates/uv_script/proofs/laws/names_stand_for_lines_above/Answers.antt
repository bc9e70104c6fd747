use Rattle.uv_script.proofs.Namings.{names-stand}
use Rattle.uv_script.proofs.laws.names_stand_for_lines_above.Goals as goal

pub returns : goal.returns
returns c = names-stand
