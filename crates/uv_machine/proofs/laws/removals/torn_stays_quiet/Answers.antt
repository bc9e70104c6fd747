use Rattle.uv_machine.proofs.Emptying.{torn_stays_quiet}
use Rattle.uv_machine.proofs.laws.removals.torn_stays_quiet.Goals as goal

pub returns : goal.returns
returns c = torn_stays_quiet
