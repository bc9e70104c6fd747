use Rattle.uv_world.specs.Lending.{nothing_lent}
use Rattle.uv_world.proofs.Lends.{IsLendingOn}
use Rattle.uv_world.proofs.lending.lend.Given as goal

abbrev pub invariant-loop-key : goal.invariant-loop-key
invariant-loop-key l = IsLendingOn l.windows (nothing_lent l.initial.regions) l.regions l.lent l.keys l.key-index
