use Rattle.uv_machine.proofs.Lifetimes.{users_first}
use Rattle.uv_machine.proofs.laws.lives.users_first.Goals as goal

pub returns : goal.returns
returns c = users_first
