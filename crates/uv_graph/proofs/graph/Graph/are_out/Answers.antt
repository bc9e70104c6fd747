use Rattle.std.proofs.Common.{subst}
use Rattle.uv_graph.specs.Kept.{Kept}
use Rattle.uv_graph.specs.Owns.{AreOut}
use Rattle.uv_graph.proofs.graph.Graph.are_out.Goals as goal

pub returns : goal.returns
returns g c =
    let P : Kept → Type 0 = λ k. AreOut k in
    subst P c.self.view_is (record { outs = c.self.invariant.tied.outs; kills = c.self.invariant.tied.kills })
