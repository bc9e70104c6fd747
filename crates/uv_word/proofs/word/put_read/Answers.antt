use Rattle.std.proofs.Common.{arith}
use Rattle.std.proofs.lemmas.Int.{ints}
use Rattle.uv_word.proofs.Joining.{read_given}
use Rattle.uv_word.proofs.word.put_read.Goals as goal

pub returns-clause-holds : goal.returns-clause-holds
returns-clause-holds c = read_given _ _ c.requires (omega (arith, ints, c.requires))
