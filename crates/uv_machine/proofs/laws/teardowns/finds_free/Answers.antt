use Rattle.uv_machine.proofs.Sweeping.{finds_free}
use Rattle.uv_machine.proofs.laws.teardowns.finds_free.Goals as goal

pub returns : goal.returns
returns c = finds_free
