use Rattle.uv_graph.proofs.OwnApart.{own-apart}
use Rattle.uv_graph.proofs.laws.own_stands_apart.Goals as goal

pub returns : goal.returns
returns c = own-apart
