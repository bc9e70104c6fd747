use Rattle.std.proofs.Common.{subst, sym}
use Rattle.uv_graph.specs.Conditions.{IsFree}
use Rattle.uv_graph.specs.Kept.{Kept}
use Rattle.uv_graph.specs.Owns.{own_of}
use Rattle.uv_core.proofs.Leading.{enter_leads}
use Rattle.uv_core.proofs.Leaving.{seen_as}
use Rattle.uv_core.proofs.Sided.{enter_leaves}
use Rattle.uv_core.proofs.whole.Core.enter.Goals as goal

pub returns-clause-made : goal.returns-clause-made
returns-clause-made g c =
    let s = c.stands.ensures in
    (seen_as c.args.client c.self.inside.graph c.args.self.now c.enter.new.graph c.self.view_is (enter_leaves c.self.inside.graph c.enter.new.graph s.legal s.outs s.apart s.named c.enter.ensures.legal c.args.client c.args.file c.args.request.now c.enter.result c.enter.ensures.gives)).made

pub returns-clause-seat : goal.returns-clause-seat
returns-clause-seat g c =
    let s = c.stands.ensures in
    (seen_as c.args.client c.self.inside.graph c.args.self.now c.enter.new.graph c.self.view_is (enter_leaves c.self.inside.graph c.enter.new.graph s.legal s.outs s.apart s.named c.enter.ensures.legal c.args.client c.args.file c.args.request.now c.enter.result c.enter.ensures.gives)).seat

pub returns-clause-others : goal.returns-clause-others
returns-clause-others g c =
    let s = c.stands.ensures in
    (seen_as c.args.client c.self.inside.graph c.args.self.now c.enter.new.graph c.self.view_is (enter_leaves c.self.inside.graph c.enter.new.graph s.legal s.outs s.apart s.named c.enter.ensures.legal c.args.client c.args.file c.args.request.now c.enter.result c.enter.ensures.gives)).others

pub returns-clause-leads : goal.returns-clause-leads
returns-clause-leads g c =
    let s = c.stands.ensures in
    let P : Kept → Type 0 = λ k. IsFree (own_of k c.args.client) in
    enter_leads c.self.inside.graph c.enter.new.graph c.args.client c.enter.ensures.legal c.args.file c.args.request.now c.enter.result c.requires.client s.legal s.outs (subst P (sym c.self.view_is) c.requires.free) c.enter.ensures.gives
