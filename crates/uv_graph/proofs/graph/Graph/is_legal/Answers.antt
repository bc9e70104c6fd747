use Rattle.std.proofs.Common.{subst}
use Rattle.uv_machine.specs.Histories.{IsLegal}
use Rattle.uv_graph.specs.Kept.{Kept}
use Rattle.uv_graph.proofs.graph.Graph.is_legal.Goals as goal

pub returns : goal.returns
returns g c = let P : Kept → Type 0 = λ k. IsLegal k.history in subst P c.self.view_is c.self.invariant.tied.legal
