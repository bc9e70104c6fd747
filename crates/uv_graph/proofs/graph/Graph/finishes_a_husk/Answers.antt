use Rattle.std.proofs.Common.{◌≡◌, ◌∙◌, true, ap, subst, sym}
use Rattle.uv_machine.specs.declared.entry.Word.TheVariants.{Finish}
use Rattle.uv_machine.specs.States.{object_with}
use Rattle.uv_machine.specs.Histories.{state_of}
use Rattle.uv_graph.specs.Kept.{Kept}
use Rattle.uv_graph.specs.Stepping.{IsStep}
use Rattle.uv_graph.specs.Turns.{is_husk_object}
use Rattle.uv_graph.proofs.Resting.{finishes_husk}
use Rattle.uv_graph.proofs.Stepped.{step_names, word_is}
use Rattle.uv_graph.proofs.graph.Graph.finishes_a_husk.Goals as goal

pub returns : goal.returns
returns g c =
    let d = c.args._done in
    let m = state_of c.self.inside.log.history in
    let tell = g.D.Deed.facts in
    let P : Kept → Type 0 = λ k. IsStep k c.args._client d in
    let step = subst P (sym c.self.view_is) c.requires.step in
    let husk = finishes_husk tell c.self.inside.log _ c.self.inside.pools c.self.inside.held c.self.invariant.tied c.args._client step.next.call step.next.is (word_is _ c.args._client d step ∙ c.requires.word) step.none in
    let Q : Kept → Type 0 = λ k. is_husk_object (object_with (state_of k.history) d.object) ≡ true in
    subst Q c.self.view_is (ap (λ o. is_husk_object (object_with m o)) (sym (step_names _ c.args._client d step Finish c.requires.word)) ∙ husk)
