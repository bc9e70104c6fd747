use Rattle.std.proofs.Common.{[], ◌∷◌}
use Rattle.uv_guard.specs.Words.{life_word}
use Rattle.uv_guard.proofs.Placing.{placed_found}
use Rattle.uv_guard.proofs.place.Place.look.Goals as goal

pub invariant_of-self : goal.invariant_of-self
invariant_of-self g c = placed_found c.self.inside.number c.self.inside.chair.me c.look.new.chair.me (life_word c.look.result ∷ []) c.look.ensures.view c.self.invariant
