use Rattle.uv_guard.proofs.Placing.{placed_told}
use Rattle.uv_guard.proofs.place.Place.witness.Goals as goal

pub invariant_of-self : goal.invariant_of-self
invariant_of-self g c = placed_told c.self.inside.number c.self.inside.chair.me c.witness.new.chair.me c.deed.inside.chair.me.0 c.witness.ensures.seat c.self.invariant
