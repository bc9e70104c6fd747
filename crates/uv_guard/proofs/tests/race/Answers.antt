use Rattle.std.proofs.Common.{subst, sym}
use Rattle.uv_guard.specs.Laws.{IsFree}
use Rattle.uv_guard.proofs.Tested.{one_at}
use Rattle.uv_guard.proofs.tests.race.Goals as goal

pub for_each_mut-requires-clause-accepts : goal.for_each_mut-requires-clause-accepts
for_each_mut-requires-clause-accepts g c κs within = λ i p lt e. subst (IsFree c.args.guard.now) (sym e) (one_at (IsFree c.args.guard.now) _ i _ lt c.requires)
