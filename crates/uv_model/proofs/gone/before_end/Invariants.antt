use Rattle.uv_model.proofs.Ends.{IsBefore}
use Rattle.uv_model.proofs.gone.before_end.Given as goal

-- no entry so far begins the end
abbrev pub invariant-loop-at : goal.invariant-loop-at
invariant-loop-at l = IsBefore l.entries l.at
