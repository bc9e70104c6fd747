use Rattle.uv_create.proofs.NewObjects.{make_allowed, plants}
use Rattle.uv_create.proofs.creating.plant.Goals as goal

pub make-deed-requires-clause-allowed : goal.make-deed-requires-clause-allowed
make-deed-requires-clause-allowed g c = make_allowed c.args.graph.now c.args.client c.args.done c.requires.step c.requires.word c.requires.fine

pub returns-clause-gives : goal.returns-clause-gives
returns-clause-gives g c =
    plants c.args.graph.now c.args.client c.args.done c.requires.step c.requires.word c.requires.fine c.make-deed.new.self
    (g.D.Deed.facts c.make-deed.result)
    c.kind-kind.result c.kind-kind.ensures c.make-deed.ensures.hands
