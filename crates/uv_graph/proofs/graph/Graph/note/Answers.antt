use Rattle.std.proofs.Common.{subst, sym, refl, arith}
use Rattle.uv_machine.specs.Histories.{Allowed, state_of}
use Rattle.uv_graph.specs.Dooms.{DoomsNone}
use Rattle.uv_graph.specs.Kept.{Kept}
use Rattle.uv_graph.specs.Notes.{HasNoneOut, Leaves}
use Rattle.uv_graph.proofs.Tearing.{free_to_tear}
use Rattle.uv_graph.proofs.Tying.{none_new, tied_more}
use Rattle.uv_graph.proofs.Whole.{whole_plain}
use Rattle.uv_graph.proofs.graph.Graph.note.Goals as goal

pub invariant_of-self : goal.invariant_of-self
invariant_of-self g c =
    let t = c.self.invariant.tied in
    let m = state_of c.self.inside.log.history in
    let P : Kept → Type 0 = λ k. Allowed (state_of k.history) c.args.entry in
    let Q : Kept → Type 0 = λ k. Leaves (state_of k.history) c.args.entry in
    let R : Kept → Type 0 = λ k. HasNoneOut k c.args.entry in
    let S : Kept → Type 0 = λ k. DoomsNone (state_of k.history) c.args.entry in
    let allowed = subst P (sym c.self.view_is) c.requires.allowed in
    let leaves = subst Q (sym c.self.view_is) c.requires.leaves in
    let none = subst R (sym c.self.view_is) c.requires.none in
    let k : Kept = record { history = c.self.inside.log.history; spares = c.self.inside.spares; outs = c.self.inside.outs; kills = c.self.inside.kills } in
    whole_plain _ c.self.inside.log c.note.new.self _ _ _ _ _ _ c.self.inside.uses c.self.invariant c.args.entry allowed (free_to_tear k c.args.entry none) c.note.ensures.history
    (tied_more _ c.self.inside.log c.note.new.self _ _ _ _ c.args.entry t allowed leaves none (subst S (sym c.self.view_is) c.requires.dooms)
    c.note.ensures.history c.note.ensures.legal refl refl refl (omega (arith, t.covered, c.note.ensures.spare, c.requires.free)))
    (none_new m c.args.entry leaves) refl refl
