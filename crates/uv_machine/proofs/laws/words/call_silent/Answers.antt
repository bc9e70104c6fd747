use Rattle.uv_machine.proofs.Silence.{call_silent}
use Rattle.uv_machine.proofs.laws.words.call_silent.Goals as goal

pub returns : goal.returns
returns c = call_silent
