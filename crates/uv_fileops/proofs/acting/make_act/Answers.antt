use Rattle.std.proofs.Common.{sym, ◌∙◌}
use Rattle.uv_graph.proofs.Following.{IsNext-next_of, client_acts}
use Rattle.uv_machine.specs.Histories.{state_of}
use Rattle.uv_fileops.proofs.acting.make_act.Goals as goal

-- the machine allows the step that a call makes next
pub note_act-requires-clause-allowed : goal.note_act-requires-clause-allowed
note_act-requires-clause-allowed g c =
    (client_acts c.args.client c.requires.at.client, IsNext-next_of (state_of c.args.graph.now.history) c.args.client c.args.found 0 c.in-Some.done (sym c.next_step.ensures ∙ c.in-Some.is))
