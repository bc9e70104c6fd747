use Rattle.std.proofs.Common.{sym}
use Rattle.uv_graph.proofs.Asked.{finishing_comes}
use Rattle.uv_destroy.proofs.Burials.{finished}
use Rattle.uv_destroy.proofs.destroying.finish.Goals as goal

pub finish-requires-clause-buried : goal.finish-requires-clause-buried
finish-requires-clause-buried g c = finishing_comes c.args.graph.now c.args.client (g.D.Deed.facts c.args.deed) c.in-Some.out c.requires (sym c.in-Some.ensures.value)

pub returns-clause-finishes : goal.returns-clause-finishes
returns-clause-finishes g c =
    finished c.args.graph.now c.args.client c.args.kept
    (g.D.Deed.facts c.args.deed)
    c.requires c.in-Some.out (sym c.in-Some.ensures.value) c.in-Some.ensures.has c.finish.new.self c.finish.ensures.notes
