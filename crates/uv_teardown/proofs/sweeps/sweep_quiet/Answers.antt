use Rattle.uv_machine.specs.Histories.{state_of}
use Rattle.uv_graph.proofs.Asked.{sweeper_tears}
use Rattle.uv_teardown.proofs.Turned.{quiet_counted}
use Rattle.uv_teardown.proofs.sweeps.sweep_quiet.Goals as goal

pub goes_on-requires-clause-tearing : goal.goes_on-requires-clause-tearing
goes_on-requires-clause-tearing g c = sweeper_tears c.args.graph.now c.args.tearer c.args.file c.requires.sweeper

pub goes_on-requires-clause-quiet : goal.goes_on-requires-clause-quiet
goes_on-requires-clause-quiet g c = quiet_counted (state_of c.args.graph.now.history) c.args.file c.requires.quiet
