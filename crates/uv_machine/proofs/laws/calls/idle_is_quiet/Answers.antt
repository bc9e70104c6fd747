use Rattle.uv_machine.proofs.Apart.{is_quiet-idle}
use Rattle.uv_machine.proofs.laws.calls.idle_is_quiet.Goals as goal

pub returns : goal.returns
returns c = is_quiet-idle
