use Rattle.uv_word.proofs.Joining.{exclusive_given}
use Rattle.uv_word.proofs.word.put_exclusive.Goals as goal

pub returns-clause-holds : goal.returns-clause-holds
returns-clause-holds c = exclusive_given _ c.requires
