use Rattle.std.proofs.Common.{sym, subst}
use Rattle.uv_graph.specs.declared.told.Progress.{Progress}
use Rattle.uv_graph.specs.Turns.{StepGives}
use Rattle.uv_graph.proofs.Stepped.{step_may, step_leaves, step_dooms, step_gives}
use Rattle.uv_graph.proofs.graph.Graph.go.Goals as goal

pub step-requires-clause-allowed : goal.step-requires-clause-allowed
step-requires-clause-allowed g c = step_may c.args.self.now c.args.client c.args.done c.requires.step

pub step-requires-clause-leaves : goal.step-requires-clause-leaves
step-requires-clause-leaves g c = step_leaves c.args.self.now c.args.client c.args.done c.requires.step c.requires.none

pub step-requires-clause-dooms : goal.step-requires-clause-dooms
step-requires-clause-dooms g c = step_dooms c.args.self.now c.args.client c.args.done c.requires.step c.requires.none

pub returns-clause-gives : goal.returns-clause-gives
returns-clause-gives g c =
    let tell = g.D.Deed.facts in
    let P : Progress g.row.D.Denot → Type 0 = λ p. StepGives tell c.args.self.now c.step.new.self c.args.client p in
    subst P (sym c.progress_of.ensures) (step_gives c.args.self.now c.args.client c.args.done c.requires.step tell c.step.new.self c.requires.none c.step.ensures.notes)
