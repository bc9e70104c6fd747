use Rattle.uv_machine.proofs.Lifetimes.{released_at_most_once}
use Rattle.uv_machine.proofs.laws.lives.released_at_most_once.Goals as goal

pub returns : goal.returns
returns c = released_at_most_once
