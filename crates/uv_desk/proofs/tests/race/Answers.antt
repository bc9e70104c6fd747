use Rattle.std.proofs.Common.{subst, sym}
use Rattle.uv_desk.specs.Counting.{CanAdd}
use Rattle.uv_desk.proofs.Raced.{each_at}
use Rattle.uv_desk.proofs.tests.race.Goals as goal

pub for_each_mut-requires-clause-accepts : goal.for_each_mut-requires-clause-accepts
for_each_mut-requires-clause-accepts g c κs within = λ i p lt e. subst (CanAdd c.args.desk.now) (sym e) (each_at (CanAdd c.args.desk.now) _ i _ lt c.requires)
