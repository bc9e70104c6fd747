use Rattle.uv_machine.proofs.Reaching.{Reached-state_of}
use Rattle.uv_machine.proofs.laws.reached.legal_is_reached.Goals as goal

pub returns : goal.returns
returns c = Reached-state_of
