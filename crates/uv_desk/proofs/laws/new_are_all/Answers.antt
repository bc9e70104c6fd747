use Rattle.uv_desk.proofs.All.{new_are_all}
use Rattle.uv_desk.proofs.laws.new_are_all.Goals as goal

pub returns : goal.returns
returns g c = new_are_all
