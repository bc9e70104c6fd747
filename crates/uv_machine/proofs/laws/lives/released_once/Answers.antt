use Rattle.uv_machine.proofs.Lifetimes.{released_once}
use Rattle.uv_machine.proofs.laws.lives.released_once.Goals as goal

pub returns : goal.returns
returns c = released_once
