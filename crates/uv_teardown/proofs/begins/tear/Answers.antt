use Rattle.std.proofs.Common.{sym, ◌∙◌, arith}
use Rattle.uv_machine.specs.Histories.{state_of}
use Rattle.uv_graph.proofs.Asked.{pulls_unplugged}
use Rattle.uv_teardown.proofs.Begun.{tear_may}
use Rattle.uv_teardown.proofs.begins.tear.Goals as goal

pub begin-requires-clause-allowed : goal.begin-requires-clause-allowed
begin-requires-clause-allowed g c =
    let k = c.args.graph.now in
    let unplugged = pulls_unplugged k c.args.device c.requires.pulled in
    λ began. ((omega (arith), omega (arith)), c.requires.file, tear_may (state_of k.history) c.args.device c.args.file unplugged (sym c.tear_of-answer.ensures ∙ began))
