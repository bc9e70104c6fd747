use Rattle.std.proofs.Common.{ap, sym, ◌∙◌}
use Rattle.uv_machine.specs.Histories.{state_of}
use Rattle.uv_graph.specs.Turns.{close_of}
use Rattle.uv_teardown.proofs.Begun.{close_may}
use Rattle.uv_teardown.proofs.begins.close.Goals as goal

pub begin-requires-clause-allowed : goal.begin-requires-clause-allowed
begin-requires-clause-allowed g c =
    let m = state_of c.args.graph.now.history in
    let says = sym (c.close_of-answer.ensures ∙ ap close_of c.phase_of.ensures) in
    λ began. (c.requires.actor, c.requires.file, close_may m c.args.file c.args.tearer c.requires.not_driver (says ∙ began))
