use Rattle.uv_machine.proofs.Sweeping.{object_with-killed}
use Rattle.uv_machine.proofs.laws.teardowns.sweep_shows.Goals as goal

pub returns : goal.returns
returns c = object_with-killed
