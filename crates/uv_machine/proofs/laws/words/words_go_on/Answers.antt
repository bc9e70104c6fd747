use Rattle.uv_machine.proofs.Wording.{words_go_on}
use Rattle.uv_machine.proofs.laws.words.words_go_on.Goals as goal

pub returns : goal.returns
returns c = words_go_on
