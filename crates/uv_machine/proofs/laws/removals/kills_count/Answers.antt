use Rattle.uv_machine.proofs.Emptying.{kills_count}
use Rattle.uv_machine.proofs.laws.removals.kills_count.Goals as goal

pub returns : goal.returns
returns c = kills_count
