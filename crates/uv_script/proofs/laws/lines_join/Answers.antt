use Rattle.uv_script.proofs.Joins.{lines-join}
use Rattle.uv_script.proofs.laws.lines_join.Goals as goal

pub returns : goal.returns
returns c = lines-join
