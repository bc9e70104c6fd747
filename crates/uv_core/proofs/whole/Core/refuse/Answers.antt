use Rattle.std.proofs.Common.{subst, sym}
use Rattle.uv_graph.specs.Conditions.{IsFree}
use Rattle.uv_graph.specs.Kept.{Kept}
use Rattle.uv_graph.specs.Owns.{own_of}
use Rattle.uv_core.proofs.Leading.{refuse_leads}
use Rattle.uv_core.proofs.Leaving.{seen_as}
use Rattle.uv_core.proofs.Sided.{refuse_leaves}
use Rattle.uv_core.proofs.whole.Core.refuse.Goals as goal

pub returns-clause-made : goal.returns-clause-made
returns-clause-made g c =
    let s = c.stands.ensures in
    (seen_as c.args.client c.self.inside.graph c.args.self.now c.refuse.new.graph c.self.view_is (refuse_leaves c.self.inside.graph c.refuse.new.graph s.legal s.outs s.apart s.named c.refuse.ensures.legal c.args.client c.args.file c.args.request.now c.refuse.result c.refuse.ensures.notes)).made

pub returns-clause-seat : goal.returns-clause-seat
returns-clause-seat g c =
    let s = c.stands.ensures in
    (seen_as c.args.client c.self.inside.graph c.args.self.now c.refuse.new.graph c.self.view_is (refuse_leaves c.self.inside.graph c.refuse.new.graph s.legal s.outs s.apart s.named c.refuse.ensures.legal c.args.client c.args.file c.args.request.now c.refuse.result c.refuse.ensures.notes)).seat

pub returns-clause-others : goal.returns-clause-others
returns-clause-others g c =
    let s = c.stands.ensures in
    (seen_as c.args.client c.self.inside.graph c.args.self.now c.refuse.new.graph c.self.view_is (refuse_leaves c.self.inside.graph c.refuse.new.graph s.legal s.outs s.apart s.named c.refuse.ensures.legal c.args.client c.args.file c.args.request.now c.refuse.result c.refuse.ensures.notes)).others

pub returns-clause-leads : goal.returns-clause-leads
returns-clause-leads g c =
    let P : Kept → Type 0 = λ k. IsFree (own_of k c.args.client) in
    refuse_leads c.self.inside.graph c.refuse.new.graph c.args.client c.refuse.ensures.legal c.args.file c.args.request.now c.refuse.result (subst P (sym c.self.view_is) c.requires.free) c.refuse.ensures.notes
