use Rattle.uv_machine.proofs.Wording.{words_are_steps}
use Rattle.uv_machine.proofs.laws.words.words_are_steps.Goals as goal

pub returns : goal.returns
returns c = words_are_steps
