use Rattle.uv_graph.proofs.OwnApart.{names-actor}
use Rattle.uv_graph.proofs.laws.names_its_actor.Goals as goal

pub returns : goal.returns
returns c = names-actor
