use Rattle.std.proofs.Common.{arith}
use Rattle.std.proofs.lemmas.Int.{ints}
use Rattle.uv_word.proofs.Joining.{exclusive_taken}
use Rattle.uv_word.proofs.word.try_exclusive.Goals as goal

pub returns-clause-holds : goal.returns-clause-holds
returns-clause-holds c = exclusive_taken _ (omega (arith, ints, c.if-word-ne-FREE.false))
