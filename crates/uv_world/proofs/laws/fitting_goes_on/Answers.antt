use Rattle.uv_world.proofs.Fit.{fitting_goes_on}
use Rattle.uv_world.proofs.laws.fitting_goes_on.Goals as goal

pub returns : goal.returns
returns c = fitting_goes_on c.legal_is_reached.ensures c.legal_is_celled.ensures c.legal_own_stands.ensures c.make_has_room.ensures c.calls_stand_apart.ensures c.legal_goes_on.ensures c.state_goes_on.ensures
