use Rattle.std.proofs.Common.{◌≡◌, ◌∙◌, Some, Option, ap, subst, sym}
use Rattle.uv_machine.specs.declared.entry.Word.TheVariants.{Check}
use Rattle.uv_machine.specs.declared.object.Object.{Object}
use Rattle.uv_machine.specs.States.{object_with}
use Rattle.uv_machine.specs.Histories.{state_of}
use Rattle.uv_graph.specs.Kept.{Kept}
use Rattle.uv_graph.specs.Stepping.{IsStep, Rests}
use Rattle.uv_graph.proofs.Resting.{checks_own}
use Rattle.uv_graph.proofs.Stepped.{step_names, word_is}
use Rattle.uv_graph.proofs.graph.Graph.checks_what_rests.Goals as goal

pub returns : goal.returns
returns g c =
    let d = c.args._done in
    let m = state_of c.self.inside.log.history in
    let P : Kept → Type 0 = λ k. IsStep k c.args._client d in
    let step = subst P (sym c.self.view_is) c.requires.step in
    let own = checks_own c.self.inside.log.history c.self.invariant.tied.legal c.args._client step.next.call step.next.is (word_is _ c.args._client d step ∙ c.requires.word) in
    let there : object_with m d.object ≡ Some own.item = ap (object_with m) (sym (step_names _ c.args._client d step Check c.requires.word)) ∙ own.there in
    let R : Option Object → Type 0 = λ x. Rests x in
    let Q : Kept → Type 0 = λ k. Rests (object_with (state_of k.history) d.object) in
    subst Q c.self.view_is (subst R (sym there) own.held)
