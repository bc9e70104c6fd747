use Rattle.uv_machine.proofs.Opened.{opened_stays}
use Rattle.uv_machine.proofs.laws.files.opened_stays.Goals as goal

pub returns : goal.returns
returns c = opened_stays
