use Rattle.std.proofs.Common.{subst, sym}
use Rattle.uv_graph.specs.Conditions.{IsFinishing}
use Rattle.uv_graph.specs.Kept.{Kept}
use Rattle.uv_graph.specs.Owns.{own_of}
use Rattle.uv_core.proofs.Leading.{finish_leads}
use Rattle.uv_core.proofs.Leaving.{seen_as}
use Rattle.uv_core.proofs.Sided.{finish_leaves}
use Rattle.uv_core.proofs.whole.Core.finish.Goals as goal

pub returns-clause-made : goal.returns-clause-made
returns-clause-made g c =
    let s = c.stands.ensures in
    (seen_as c.args.client c.self.inside.graph c.args.self.now c.finish.new.graph c.self.view_is (finish_leaves c.self.inside.graph c.finish.new.graph s.legal s.outs s.apart s.named c.finish.ensures.legal c.args.client c.args.kept c.finish.ensures.finishes)).made

pub returns-clause-seat : goal.returns-clause-seat
returns-clause-seat g c =
    let s = c.stands.ensures in
    (seen_as c.args.client c.self.inside.graph c.args.self.now c.finish.new.graph c.self.view_is (finish_leaves c.self.inside.graph c.finish.new.graph s.legal s.outs s.apart s.named c.finish.ensures.legal c.args.client c.args.kept c.finish.ensures.finishes)).seat

pub returns-clause-others : goal.returns-clause-others
returns-clause-others g c =
    let s = c.stands.ensures in
    (seen_as c.args.client c.self.inside.graph c.args.self.now c.finish.new.graph c.self.view_is (finish_leaves c.self.inside.graph c.finish.new.graph s.legal s.outs s.apart s.named c.finish.ensures.legal c.args.client c.args.kept c.finish.ensures.finishes)).others

pub returns-clause-leads : goal.returns-clause-leads
returns-clause-leads g c =
    let t = g.D.Deed.facts c.args.deed in
    let P : Kept → Type 0 = λ k. IsFinishing (own_of k c.args.client) t in
    finish_leads c.self.inside.graph c.finish.new.graph c.args.client c.finish.ensures.legal t c.args.kept (subst P (sym c.self.view_is) c.requires) c.finish.ensures.finishes
