use Rattle.uv_guard.specs.Laws.{IsFree}
use Rattle.uv_guard.proofs.Tested.{all_turned}
use Rattle.uv_guard.proofs.tests.race_back.Goals as goal

pub returns-clause-free : goal.returns-clause-free
returns-clause-free g c = all_turned (IsFree c.args.guard.now) _ c.race.new.seats _ c.race.ensures.len c.race.ensures.free c.reverse.ensures.after
