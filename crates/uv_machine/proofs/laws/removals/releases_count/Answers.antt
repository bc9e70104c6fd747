use Rattle.uv_machine.proofs.Emptying.{releases_count}
use Rattle.uv_machine.proofs.laws.removals.releases_count.Goals as goal

pub returns : goal.returns
returns c = releases_count
