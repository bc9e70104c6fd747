use Rattle.std.proofs.Common.{◌≡◌, ◌∙◌, ap, sym, subst}
use Rattle.std.specs.Prelude.{position}
use Rattle.uv_machine.specs.declared.file.FilePhase.TheVariants.{Tearing}
use Rattle.uv_machine.specs.declared.entry.Entry.TheVariants as entry
use Rattle.uv_machine.specs.declared.state.State.{State}
use Rattle.uv_machine.specs.States.{phase_of}
use Rattle.uv_machine.specs.Histories.{after, state_of}
use Rattle.uv_graph.specs.Kept.{Kept}
use Rattle.uv_graph.specs.Owns.{tears_it}
use Rattle.uv_graph.proofs.MachineLaws.{state_goes_on}
use Rattle.uv_graph.proofs.Tearing.{closed_ends}
use Rattle.uv_graph.proofs.graph.Graph.closed.Goals as goal

pub returns-clause-torn : goal.returns-clause-torn
returns-clause-torn g c = λ by tearing. (
    let h = c.self.inside.log.history in
    let m = state_of h in
    let e = entry.Closed c.args.file in
    let N : Kept → State = λ k. after (state_of k.history) e in
    let now : state_of c.note.new.self.history ≡ after m e = ap state_of c.note.ensures.notes.history ∙ state_goes_on c.args.self.now.history e ∙ sym (ap N c.self.view_is) in
    let P : Kept → Type 0 = λ k. phase_of (state_of k.history) c.args.file ≡ Tearing by in
    ap (λ (s : State). position (tears_it by) s.files) now ∙ closed_ends m c.args.file by c.self.invariant.once (subst P (sym c.self.view_is) tearing))
