use Rattle.std.proofs.Common.{subst, sym}
use Rattle.uv_graph.specs.Conditions.{IsReady}
use Rattle.uv_graph.specs.Kept.{Kept}
use Rattle.uv_graph.specs.Owns.{own_of}
use Rattle.uv_core.specs.Roles.{is_any}
use Rattle.uv_core.proofs.Leading.{step_leads}
use Rattle.uv_core.proofs.Leaving.{seen_as}
use Rattle.uv_core.proofs.Sided.{step_leaves}
use Rattle.uv_core.proofs.whole.Core.step.Goals as goal

pub returns-clause-made : goal.returns-clause-made
returns-clause-made g c =
    let s = c.stands.ensures in
    (seen_as c.args.client c.self.inside.graph c.args.self.now c.take_step-progress.new.graph c.self.view_is (step_leaves c.self.inside.graph c.take_step-progress.new.graph s.legal s.outs s.apart s.named c.take_step-progress.ensures.legal g.D.Deed.facts c.args.client c.take_step-progress.result c.take_step-progress.ensures.gives)).made

pub returns-clause-seat : goal.returns-clause-seat
returns-clause-seat g c =
    let s = c.stands.ensures in
    (seen_as c.args.client c.self.inside.graph c.args.self.now c.take_step-progress.new.graph c.self.view_is (step_leaves c.self.inside.graph c.take_step-progress.new.graph s.legal s.outs s.apart s.named c.take_step-progress.ensures.legal g.D.Deed.facts c.args.client c.take_step-progress.result c.take_step-progress.ensures.gives)).seat

pub returns-clause-others : goal.returns-clause-others
returns-clause-others g c =
    let s = c.stands.ensures in
    (seen_as c.args.client c.self.inside.graph c.args.self.now c.take_step-progress.new.graph c.self.view_is (step_leaves c.self.inside.graph c.take_step-progress.new.graph s.legal s.outs s.apart s.named c.take_step-progress.ensures.legal g.D.Deed.facts c.args.client c.take_step-progress.result c.take_step-progress.ensures.gives)).others

pub returns-clause-leads : goal.returns-clause-leads
returns-clause-leads g c =
    let P : Kept → Type 0 = λ k. IsReady is_any (own_of k c.args.client) in
    step_leads c.self.inside.graph c.take_step-progress.new.graph c.args.client c.take_step-progress.ensures.legal g.D.Deed.facts c.take_step-progress.result (subst P (sym c.self.view_is) c.requires) c.are_out.ensures c.take_step-progress.ensures.gives
