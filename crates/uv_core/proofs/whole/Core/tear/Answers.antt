use Rattle.uv_core.proofs.Sweeping.{tear_leads}
use Rattle.uv_graph.specs.Owns.{own_of, TearsNone}
use Rattle.uv_graph.specs.Kept.{Kept}
use Rattle.std.proofs.Common.{subst, sym}
use Rattle.uv_num.specs.declared.limits.TheConstants.{DRIVER}
use Rattle.uv_core.proofs.Leaving.{seen_as}
use Rattle.uv_core.proofs.Sided.{tear_leaves}
use Rattle.uv_core.proofs.whole.Core.tear.Goals as goal

pub returns-clause-made : goal.returns-clause-made
returns-clause-made g c =
    let s = c.stands.ensures in
    (seen_as DRIVER c.self.inside.graph c.args.self.now c.tear.new.graph c.self.view_is (tear_leaves c.self.inside.graph c.tear.new.graph s.legal s.outs s.apart s.named c.tear.ensures.legal c.args.file DRIVER c.tear.result c.tear.ensures.gives)).made

pub returns-clause-seat : goal.returns-clause-seat
returns-clause-seat g c =
    let s = c.stands.ensures in
    (seen_as DRIVER c.self.inside.graph c.args.self.now c.tear.new.graph c.self.view_is (tear_leaves c.self.inside.graph c.tear.new.graph s.legal s.outs s.apart s.named c.tear.ensures.legal c.args.file DRIVER c.tear.result c.tear.ensures.gives)).seat

pub returns-clause-others : goal.returns-clause-others
returns-clause-others g c =
    let s = c.stands.ensures in
    (seen_as DRIVER c.self.inside.graph c.args.self.now c.tear.new.graph c.self.view_is (tear_leaves c.self.inside.graph c.tear.new.graph s.legal s.outs s.apart s.named c.tear.ensures.legal c.args.file DRIVER c.tear.result c.tear.ensures.gives)).others

pub returns-clause-leads : goal.returns-clause-leads
returns-clause-leads g c =
    let s = c.stands.ensures in
    let P : Kept → Type 0 = λ k. TearsNone (own_of k DRIVER) in
    tear_leads c.self.inside.graph c.tear.new.graph DRIVER c.args.file c.tear.result c.requires.file s.legal s.outs (subst P (sym c.self.view_is) c.requires.none) c.tear.ensures.gives
