use Rattle.uv_word.proofs.Joining.{one_word}
use Rattle.uv_word.proofs.laws.holds_have_one_word.Goals as goal

pub returns : goal.returns
returns c = one_word
