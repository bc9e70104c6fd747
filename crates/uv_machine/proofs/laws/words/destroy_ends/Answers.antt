use Rattle.uv_machine.proofs.Destroyed.{destroy_ends}
use Rattle.uv_machine.proofs.laws.words.destroy_ends.Goals as goal

pub returns : goal.returns
returns c = destroy_ends
