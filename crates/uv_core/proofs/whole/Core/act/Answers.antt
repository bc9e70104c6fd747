use Rattle.std.proofs.Common.{subst, sym}
use Rattle.uv_graph.specs.Conditions.{IsTouching}
use Rattle.uv_graph.specs.Kept.{Kept}
use Rattle.uv_graph.specs.Owns.{own_of}
use Rattle.uv_core.proofs.Leading.{act_leads}
use Rattle.uv_core.proofs.Leaving.{seen_as}
use Rattle.uv_core.proofs.Sided.{act_leaves}
use Rattle.uv_core.proofs.whole.Core.act.Goals as goal

pub returns-clause-made : goal.returns-clause-made
returns-clause-made g c =
    let s = c.stands.ensures in
    (seen_as c.args.client c.self.inside.graph c.args.self.now c.act.new.graph c.self.view_is (act_leaves c.self.inside.graph c.act.new.graph s.legal s.outs s.apart s.named c.act.ensures.legal c.args.client c.args.found c.act.result c.act.ensures.acts)).made

pub returns-clause-seat : goal.returns-clause-seat
returns-clause-seat g c =
    let s = c.stands.ensures in
    (seen_as c.args.client c.self.inside.graph c.args.self.now c.act.new.graph c.self.view_is (act_leaves c.self.inside.graph c.act.new.graph s.legal s.outs s.apart s.named c.act.ensures.legal c.args.client c.args.found c.act.result c.act.ensures.acts)).seat

pub returns-clause-others : goal.returns-clause-others
returns-clause-others g c =
    let s = c.stands.ensures in
    (seen_as c.args.client c.self.inside.graph c.args.self.now c.act.new.graph c.self.view_is (act_leaves c.self.inside.graph c.act.new.graph s.legal s.outs s.apart s.named c.act.ensures.legal c.args.client c.args.found c.act.result c.act.ensures.acts)).others

pub returns-clause-leads : goal.returns-clause-leads
returns-clause-leads g c =
    let P : Kept → Type 0 = λ k. IsTouching (own_of k c.args.client) c.args.found in
    act_leads c.self.inside.graph c.act.new.graph c.args.client c.act.ensures.legal c.args.found c.act.result (subst P (sym c.self.view_is) c.requires) c.act.ensures.acts
