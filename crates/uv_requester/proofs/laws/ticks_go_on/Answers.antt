use Rattle.uv_requester.proofs.Going.{tick_goes_on}
use Rattle.uv_requester.proofs.laws.ticks_go_on.Goals as goal

pub returns : goal.returns
returns c = tick_goes_on c.turns_go_on.ensures c.turns_go_on_in_turn.ensures
