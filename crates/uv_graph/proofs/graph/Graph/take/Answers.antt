use Rattle.std.proofs.Common.{◌≡◌, ◌∙◌, ap, subst, sym, refl, arith}
use Rattle.uv_machine.specs.Histories.{Allowed, state_of}
use Rattle.uv_graph.specs.Dooms.{DoomsNone}
use Rattle.uv_graph.specs.Kept.{Kept}
use Rattle.uv_graph.specs.Notes.{HasNoneOut, Leaves}
use Rattle.uv_graph.proofs.Tearing.{free_to_tear}
use Rattle.uv_graph.proofs.Tying.{none_new, tied_more, tied_wider}
use Rattle.uv_graph.proofs.Whole.{whole_plain, whole_still}
use Rattle.uv_graph.proofs.graph.Graph.take.Goals as goal

pub invariant_of-self : goal.invariant_of-self
invariant_of-self g c =
    whole_still _ c.self.inside.log c.widen.new.self _ _ _ _ _ _ c.self.inside.uses c.self.invariant c.widen.ensures.history (λ a out n. n)
    (tied_wider _ c.self.inside.log c.widen.new.self _ _ _ _ c.self.invariant.tied c.widen.ensures.history (omega (arith, c.in-Err.ensures.err)) refl refl refl refl)

pub invariant_of-self-in-Ok : goal.invariant_of-self-in-Ok
invariant_of-self-in-Ok g c =
    let k : Kept = record { history = c.self.inside.log.history; spares = c.self.inside.spares; outs = c.self.inside.outs; kills = c.self.inside.kills } in
    let k' : Kept = record { history = c.widen.new.self.history; spares = c.self.inside.spares; outs = c.self.inside.outs; kills = c.self.inside.kills } in
    let P : Kept → Type 0 = λ v. Allowed (state_of v.history) c.args.entry in
    let Q : Kept → Type 0 = λ v. Leaves (state_of v.history) c.args.entry in
    let R : Kept → Type 0 = λ v. HasNoneOut v c.args.entry in
    let S : Kept → Type 0 = λ v. DoomsNone (state_of v.history) c.args.entry in
    let t = tied_wider _ c.self.inside.log c.widen.new.self k k' _ _ c.self.invariant.tied c.widen.ensures.history (omega (arith, c.in-Ok.ensures.ok)) refl refl refl refl in
    let w = whole_still _ c.self.inside.log c.widen.new.self k k' _ _ _ _ c.self.inside.uses c.self.invariant c.widen.ensures.history (λ a out n. n) t in
    let same : k ≡ k' = ap (λ h. record { history = h; spares = c.self.inside.spares; outs = c.self.inside.outs; kills = c.self.inside.kills }) (sym c.widen.ensures.history) in
    let allowed = subst P (sym c.self.view_is ∙ same) c.requires.allowed in
    let leaves = subst Q (sym c.self.view_is ∙ same) c.requires.leaves in
    let none = subst R (sym c.self.view_is ∙ same) c.requires.none in
    whole_plain _ c.widen.new.self c.note.new.self k' _ _ _ _ _ c.self.inside.uses w c.args.entry allowed (free_to_tear k' c.args.entry none) c.note.ensures.history
    (tied_more _ c.widen.new.self c.note.new.self k' _ _ _ c.args.entry t allowed leaves none (subst S (sym c.self.view_is ∙ same) c.requires.dooms)
    c.note.ensures.history c.note.ensures.legal refl refl refl (omega (arith, c.self.invariant.tied.covered, c.in-Ok.ensures.ok, c.note.ensures.spare, c.requires.room)))
    (none_new (state_of c.widen.new.self.history) c.args.entry leaves) refl refl
