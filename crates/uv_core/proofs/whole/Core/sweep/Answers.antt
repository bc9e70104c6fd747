use Rattle.uv_core.proofs.Sweeping.{sweep_leads}
use Rattle.std.proofs.Common.{subst, sym}
use Rattle.uv_graph.specs.Kept.{Kept}
use Rattle.uv_graph.specs.Owns.{own_of}
use Rattle.uv_graph.specs.Conditions.{IsSweeper}
use Rattle.uv_core.proofs.Leaving.{seen_as}
use Rattle.uv_core.proofs.Sided.{sweep_leaves}
use Rattle.uv_core.proofs.whole.Core.sweep.Goals as goal

pub returns-clause-made : goal.returns-clause-made
returns-clause-made g c =
    let s = c.stands.ensures in
    let P : Kept → Type 0 = λ k. IsSweeper (own_of k c.args.tearer) c.args.file in
    let sweeper = subst P (sym c.self.view_is) c.requires in
    (seen_as c.args.tearer c.self.inside.graph c.args.self.now c.sweep.new.graph c.self.view_is (sweep_leaves c.self.inside.graph c.sweep.new.graph s.legal s.outs s.apart s.named c.sweep.ensures.legal g.D.Deed.facts c.args.tearer c.args.file c.sweep.result sweeper c.sweep.ensures.gives)).made

pub returns-clause-seat : goal.returns-clause-seat
returns-clause-seat g c =
    let s = c.stands.ensures in
    let P : Kept → Type 0 = λ k. IsSweeper (own_of k c.args.tearer) c.args.file in
    let sweeper = subst P (sym c.self.view_is) c.requires in
    (seen_as c.args.tearer c.self.inside.graph c.args.self.now c.sweep.new.graph c.self.view_is (sweep_leaves c.self.inside.graph c.sweep.new.graph s.legal s.outs s.apart s.named c.sweep.ensures.legal g.D.Deed.facts c.args.tearer c.args.file c.sweep.result sweeper c.sweep.ensures.gives)).seat

pub returns-clause-others : goal.returns-clause-others
returns-clause-others g c =
    let s = c.stands.ensures in
    let P : Kept → Type 0 = λ k. IsSweeper (own_of k c.args.tearer) c.args.file in
    let sweeper = subst P (sym c.self.view_is) c.requires in
    (seen_as c.args.tearer c.self.inside.graph c.args.self.now c.sweep.new.graph c.self.view_is (sweep_leaves c.self.inside.graph c.sweep.new.graph s.legal s.outs s.apart s.named c.sweep.ensures.legal g.D.Deed.facts c.args.tearer c.args.file c.sweep.result sweeper c.sweep.ensures.gives)).others

pub returns-clause-leads : goal.returns-clause-leads
returns-clause-leads g c =
    let P : Kept → Type 0 = λ k. IsSweeper (own_of k c.args.tearer) c.args.file in
    sweep_leads c.self.inside.graph c.sweep.new.graph c.args.tearer c.args.file g.D.Deed.facts c.sweep.result (subst P (sym c.self.view_is) c.requires) c.sweep.ensures.gives
