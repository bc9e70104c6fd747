use Rattle.std.proofs.Common.{◌≡◌, ◌∙◌, ap, sym, subst}
use Rattle.std.specs.Prelude.{position}
use Rattle.uv_num.specs.declared.limits.TheConstants.{DRIVER}
use Rattle.uv_machine.specs.declared.entry.Entry.TheVariants as entry
use Rattle.uv_machine.specs.declared.state.State.{State}
use Rattle.uv_machine.specs.Histories.{Allowed, after, state_of}
use Rattle.uv_graph.specs.Kept.{Kept}
use Rattle.uv_graph.specs.Owns.{tears_it}
use Rattle.uv_graph.proofs.MachineLaws.{state_goes_on}
use Rattle.uv_graph.proofs.Tearing.{dissociated_ends, dissociated_tears}
use Rattle.uv_graph.proofs.graph.Graph.dissociated.Goals as goal

pub returns-clause-torn : goal.returns-clause-torn
returns-clause-torn g c =
    let h = c.self.inside.log.history in
    let m = state_of h in
    let e = entry.Dissociated c.args.file in
    let N : Kept → State = λ k. after (state_of k.history) e in
    let now : state_of c.note.new.self.history ≡ after m e = ap state_of c.note.ensures.notes.history ∙ state_goes_on c.args.self.now.history e ∙ sym (ap N c.self.view_is) in
    let A : Kept → Type 0 = λ k. Allowed (state_of k.history) e in
    let allowed = subst A (sym c.self.view_is) c.requires.allowed in
    ap (λ (s : State). position (tears_it DRIVER) s.files) now ∙ dissociated_ends m c.args.file DRIVER c.self.invariant.once (dissociated_tears m c.args.file allowed)
