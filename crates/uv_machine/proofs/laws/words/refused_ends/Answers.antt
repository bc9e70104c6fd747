use Rattle.uv_machine.proofs.Wording.{refused_ends}
use Rattle.uv_machine.proofs.laws.words.refused_ends.Goals as goal

pub returns : goal.returns
returns c = refused_ends
