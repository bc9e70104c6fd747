use Rattle.uv_completer.proofs.judging.upshot_at.Goals as goal

pub returns-in-Tells-clause-may : goal.returns-in-Tells-clause-may
returns-in-Tells-clause-may c = c.upshot_told.ensures.may c.args.size
