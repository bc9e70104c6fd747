use Rattle.std.proofs.Common.{subst, sym}
use Rattle.uv_graph.specs.Conditions.{ComesPlanted}
use Rattle.uv_graph.specs.Kept.{Kept}
use Rattle.uv_graph.specs.Owns.{own_of}
use Rattle.uv_core.proofs.Leading.{planted_leads}
use Rattle.uv_core.proofs.Leaving.{seen_as, leaves_hand}
use Rattle.uv_core.proofs.whole.Core.planted.Goals as goal

pub returns-clause-made : goal.returns-clause-made
returns-clause-made g c =
    (seen_as c.args.client c.self.inside.graph c.args.self.now c.planted.new.graph c.self.view_is (leaves_hand c.args.client c.self.inside.graph c.planted.new.graph c.planted.ensures.same)).made

pub returns-clause-seat : goal.returns-clause-seat
returns-clause-seat g c =
    (seen_as c.args.client c.self.inside.graph c.args.self.now c.planted.new.graph c.self.view_is (leaves_hand c.args.client c.self.inside.graph c.planted.new.graph c.planted.ensures.same)).seat

pub returns-clause-others : goal.returns-clause-others
returns-clause-others g c =
    (seen_as c.args.client c.self.inside.graph c.args.self.now c.planted.new.graph c.self.view_is (leaves_hand c.args.client c.self.inside.graph c.planted.new.graph c.planted.ensures.same)).others

pub returns-clause-leads : goal.returns-clause-leads
returns-clause-leads g c =
    let t = g.D.Deed.facts c.args.deed in
    let P : Kept → Type 0 = λ k. ComesPlanted (own_of k c.args.client) t in
    planted_leads c.self.inside.graph c.planted.new.graph c.args.client c.planted.ensures.legal t (subst P (sym c.self.view_is) c.requires) c.planted.ensures.same
