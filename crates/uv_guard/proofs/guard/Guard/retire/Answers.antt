use Rattle.uv_guard.proofs.guard.Guard.retire.Goals as goal

pub returns-clause-identity : goal.returns-clause-identity
returns-clause-identity g c = λ p st. g.T.Celled.itself p c.retire.result (c.retire.ensures.given p st)
