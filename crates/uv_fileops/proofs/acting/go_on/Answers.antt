use Rattle.std.proofs.Common.{sym, ◌∙◌}
use Rattle.uv_machine.specs.Effects.{refusal_in}
use Rattle.uv_machine.specs.States.{object_with}
use Rattle.uv_machine.specs.Histories.{state_of}
use Rattle.uv_graph.proofs.Stepped.{word_is}
use Rattle.uv_graph.specs.Stepping.{IsStep}
use Rattle.uv_fileops.proofs.Touched.{acts_go, acts_plainly}
use Rattle.uv_fileops.proofs.acting.go_on.Goals as goal

-- a call that acts makes no word that hands a deed out
pub go-requires-clause-none : goal.go-requires-clause-none
go-requires-clause-none g c =
    let ready = c.requires.ready in
    let d = c.in-Some.done in
    let k = c.args.graph.now in
    let step : IsStep k c.args.client d = record { client = ready.client; next = record { call = ready.call; is = ready.is; alone = c.requires.alone; next = sym c.next_step.ensures ∙ c.in-Some.is }; none = ready.none } in
    acts_go d.word (refusal_in d.answer) (object_with (state_of k.history) d.object)
    (acts_plainly ready.call d.word ready.does_it (word_is k c.args.client d step))
