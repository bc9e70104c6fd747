use Rattle.std.proofs.Common.{◌≡◌, ◌+◌, ◌<◌, ◌∙◌, ap, subst, sym, refl, arith, sum}
use Rattle.std.specs.Prelude.{slice_get, unwrap_or}
use Rattle.uv_machine.specs.Histories.{Allowed, state_of}
use Rattle.uv_graph.specs.Dooms.{DoomsNone}
use Rattle.uv_graph.specs.Kept.{Kept, spare_of}
use Rattle.uv_graph.specs.Notes.{HasNoneOut, Leaves, NotesSpared}
use Rattle.uv_graph.proofs.Spending.{sum-less, less_one}
use Rattle.uv_graph.proofs.Tearing.{free_to_tear}
use Rattle.uv_graph.proofs.Tying.{none_new, tied_more}
use Rattle.uv_graph.proofs.Whole.{whole_plain}
use Rattle.uv_graph.proofs.graph.Graph.note_in_spare.Goals as goal

pub note-requires-clause-room : goal.note-requires-clause-room
note-requires-clause-room g c =
    let S : Kept → Type 0 = λ k. 0 < spare_of k c.args.client in
    let less = sum-less c.self.inside.spares c.args.client (subst S (sym c.self.view_is) c.requires.spare) in
    omega (arith, less, c.self.invariant.tied.covered, c.requires.room)

pub invariant_of-self : goal.invariant_of-self
invariant_of-self g c =
    let S : Kept → Type 0 = λ k. 0 < spare_of k c.args.client in
    let less = sum-less c.self.inside.spares c.args.client (subst S (sym c.self.view_is) c.requires.spare) in
    let now : sum c.spend.new.spares + 1 ≡ sum c.self.inside.spares = ap (λ v. sum v + 1) c.spend.ensures ∙ less in
    let P : Kept → Type 0 = λ k. Allowed (state_of k.history) c.args.entry in
    let Q : Kept → Type 0 = λ k. Leaves (state_of k.history) c.args.entry in
    let R : Kept → Type 0 = λ k. HasNoneOut k c.args.entry in
    let D : Kept → Type 0 = λ k. DoomsNone (state_of k.history) c.args.entry in
    let allowed = subst P (sym c.self.view_is) c.requires.allowed in
    let leaves = subst Q (sym c.self.view_is) c.requires.leaves in
    let none = subst R (sym c.self.view_is) c.requires.none in
    let k : Kept = record { history = c.self.inside.log.history; spares = c.self.inside.spares; outs = c.self.inside.outs; kills = c.self.inside.kills } in
    whole_plain _ c.self.inside.log c.note.new.self _ _ _ _ _ _ c.self.inside.uses c.self.invariant c.args.entry allowed (free_to_tear k c.args.entry none) c.note.ensures.history
    (tied_more _ c.self.inside.log c.note.new.self _ _ _ _ c.args.entry c.self.invariant.tied allowed leaves none (subst D (sym c.self.view_is) c.requires.dooms)
    c.note.ensures.history c.note.ensures.legal refl refl refl (omega (arith, c.self.invariant.tied.covered, c.note.ensures.spare, c.requires.room, now)))
    (none_new (state_of c.self.inside.log.history) c.args.entry leaves) refl refl

pub returns-clause-notes : goal.returns-clause-notes
returns-clause-notes g c =
    let k' : Kept = record { history = c.note.new.self.history; spares = c.spend.new.spares; outs = c.self.inside.outs; kills = c.self.inside.kills } in
    let T : Kept → Type 0 = λ k. NotesSpared k k' c.args.entry c.args.client in
    subst T c.self.view_is (record { history = c.note.ensures.history; spares = c.spend.ensures; outs = refl; kills = refl })

pub returns-clause-less : goal.returns-clause-less
returns-clause-less g c =
    let S : Kept → Type 0 = λ k. 0 < spare_of k c.args.client in
    let some = subst S (sym c.self.view_is) c.requires.spare in
    let T : Kept → Type 0 = λ k. spare_of k c.args.client ≡ unwrap_or (slice_get c.spend.new.spares c.args.client) 0 + 1 in
    subst T c.self.view_is (less_one c.self.inside.spares c.args.client some ∙ ap (λ v. unwrap_or (slice_get v c.args.client) 0 + 1) (sym c.spend.ensures))
