use Rattle.std.proofs.Common.{ap, ◌∙◌}
use Rattle.uv_guard.proofs.Placing.{in_with, placed_left}
use Rattle.uv_guard.proofs.place.Place.leave.Goals as goal

pub leave-requires-clause-inside : goal.leave-requires-clause-inside
leave-requires-clause-inside g c = let i = c.requires.inside in (i.0, in_with c.self.inside.number c.self.inside.chair.me i.0 c.self.invariant (ap (λ p. p.held) c.self.view_is ∙ i.1), i.2)

pub invariant_of-self : goal.invariant_of-self
invariant_of-self g c = let i = c.requires.inside in let e = ap (λ p. p.held) c.self.view_is ∙ i.1 in placed_left c.self.inside.number c.self.inside.chair.me c.leave.new.chair.me i.0 c.args.value c.self.invariant e (c.leave.ensures.view i.0 e)
