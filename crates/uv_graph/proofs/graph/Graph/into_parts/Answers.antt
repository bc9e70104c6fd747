use Rattle.std.proofs.Common.{subst, sym}
use Rattle.uv_machine.specs.Histories.{state_of}
use Rattle.uv_machine.specs.Files.{AreOver}
use Rattle.uv_graph.specs.Hands.{AreHomePools}
use Rattle.uv_graph.specs.Kept.{Kept}
use Rattle.uv_graph.proofs.Beginning.{all_home}
use Rattle.uv_graph.proofs.graph.Graph.into_parts.Goals as goal

pub returns-clause-pools : goal.returns-clause-pools
returns-clause-pools g c =
    let tell = g.D.Deed.facts in
    let P : Kept → Type 0 = λ k. AreOver (state_of k.history) in
    let Q : Kept → Type 0 = λ k. AreHomePools tell c.self.inside.pools k.history in
    subst Q c.self.view_is (all_home tell c.self.inside.log _ c.self.inside.pools c.self.inside.held c.self.invariant.tied (subst P (sym c.self.view_is) c.requires.over))
