use Rattle.std.proofs.Common.{sym}
use Rattle.uv_graph.proofs.Asked.{releasing_comes}
use Rattle.uv_teardown.proofs.sweeps.gone.Goals as goal

pub gone-requires-clause-buried : goal.gone-requires-clause-buried
gone-requires-clause-buried g c = releasing_comes c.args.graph.now c.args.tearer c.args.file (g.D.Deed.facts c.args.deed) c.in-Some.out c.requires (sym c.in-Some.ensures.value)
