use Rattle.uv_destroy.proofs.Burials.{check_allowed, retires}
use Rattle.uv_destroy.proofs.destroying.retire_object.Goals as goal

pub check-deed-requires-clause-allowed : goal.check-deed-requires-clause-allowed
check-deed-requires-clause-allowed g c = check_allowed c.args.graph.now c.args.client c.args.done c.requires.step c.requires.word c.requires.fine

pub returns-clause-gives : goal.returns-clause-gives
returns-clause-gives g c =
    retires c.args.graph.now c.args.client c.args.done c.requires.step c.requires.word c.requires.fine c.check-deed.new.self c.args.x
    (g.D.Deed.facts c.check-deed.result)
    c.requires.there c.check-deed.ensures.hands
