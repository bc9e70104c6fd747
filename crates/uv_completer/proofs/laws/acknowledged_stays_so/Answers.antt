use Rattle.uv_completer.proofs.Onward.{onward}
use Rattle.uv_completer.proofs.laws.acknowledged_stays_so.Goals as goal

pub returns : goal.returns
returns c = onward
