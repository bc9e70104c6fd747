use Rattle.std.proofs.Common.{ap, arith}
use Rattle.std.proofs.lemmas.Int.{ints}
use mir.Syntax.{w32}
use mir.Val.{of_z}
use Rattle.uv_word.proofs.Joining.{read_taken}
use Rattle.uv_word.proofs.word.try_read.Goals as goal

pub returns-clause-holds : goal.returns-clause-holds
returns-clause-holds c = read_taken _ _ (λ e. c.if-word-eq-EXCLUSIVE.false (ap (of_z w32) e)) (omega (arith, ints, c.requires))
