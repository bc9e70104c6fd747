use Rattle.uv_machine.proofs.Owing.{owed_after}
use Rattle.uv_machine.proofs.laws.accounts.owed_covers.Goals as goal

pub returns : goal.returns
returns c = owed_after
