use Rattle.uv_core.proofs.Sweeping.{gone_leads}
use Rattle.uv_graph.specs.Conditions.{IsReleasing}
use Rattle.uv_graph.specs.Owns.{own_of}
use Rattle.uv_graph.specs.Kept.{Kept}
use Rattle.std.proofs.Common.{subst, sym}
use Rattle.uv_core.proofs.Leaving.{seen_as}
use Rattle.uv_core.proofs.Sided.{gone_leaves}
use Rattle.uv_core.proofs.whole.Core.gone.Goals as goal

pub returns-clause-made : goal.returns-clause-made
returns-clause-made g c =
    let s = c.stands.ensures in
    (seen_as c.args.tearer c.self.inside.graph c.args.self.now c.gone.new.graph c.self.view_is (gone_leaves c.self.inside.graph c.gone.new.graph s.legal s.outs s.apart s.named c.gone.ensures.legal c.args.tearer c.args.kept c.gone.ensures.releases)).made

pub returns-clause-seat : goal.returns-clause-seat
returns-clause-seat g c =
    let s = c.stands.ensures in
    (seen_as c.args.tearer c.self.inside.graph c.args.self.now c.gone.new.graph c.self.view_is (gone_leaves c.self.inside.graph c.gone.new.graph s.legal s.outs s.apart s.named c.gone.ensures.legal c.args.tearer c.args.kept c.gone.ensures.releases)).seat

pub returns-clause-others : goal.returns-clause-others
returns-clause-others g c =
    let s = c.stands.ensures in
    (seen_as c.args.tearer c.self.inside.graph c.args.self.now c.gone.new.graph c.self.view_is (gone_leaves c.self.inside.graph c.gone.new.graph s.legal s.outs s.apart s.named c.gone.ensures.legal c.args.tearer c.args.kept c.gone.ensures.releases)).others

pub returns-clause-leads : goal.returns-clause-leads
returns-clause-leads g c =
    let t = g.D.Deed.facts c.args.deed in
    let P : Kept → Type 0 = λ k. IsReleasing (own_of k c.args.tearer) c.args.file t in
    gone_leads c.self.inside.graph c.gone.new.graph c.args.tearer c.args.file t c.args.kept (subst P (sym c.self.view_is) c.requires) c.gone.ensures.releases
