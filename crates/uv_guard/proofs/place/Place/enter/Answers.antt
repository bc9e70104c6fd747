use Rattle.std.proofs.Common.{ap, ◌∙◌}
use Rattle.uv_guard.proofs.Placing.{out_with, placed_entered, place_enters}
use Rattle.uv_guard.proofs.place.Place.enter.Goals as goal

pub invariant_of-self : goal.invariant_of-self
invariant_of-self g c = placed_entered g.T.Celled.goes_on c.self.inside.number c.args.generation c.self.inside.chair.me c.enter.new.chair.me c.enter.result (out_with c.self.inside.number c.self.inside.chair.me c.self.invariant (ap (λ p. p.held) c.self.view_is ∙ c.requires.out)) c.enter.ensures.value

pub returns : goal.returns
returns g c = place_enters g.T.Celled.goes_on c.args.generation c.self.inside.chair c.enter.new.chair c.args.self.now c.enter.result c.self.view_is c.enter.ensures.same.0 c.enter.ensures.value
