use Rattle.uv_desk.proofs.All.{places_are_all}
use Rattle.uv_desk.proofs.laws.places_are_all.Goals as goal

pub returns : goal.returns
returns g c = places_are_all
