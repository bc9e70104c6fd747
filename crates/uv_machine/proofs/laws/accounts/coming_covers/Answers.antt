use Rattle.uv_machine.proofs.Owing.{coming_after}
use Rattle.uv_machine.proofs.laws.accounts.coming_covers.Goals as goal

pub returns : goal.returns
returns c = coming_after
