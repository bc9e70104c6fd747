use Rattle.uv_script.proofs.Silence.{the-dead-are-silent}
use Rattle.uv_script.proofs.laws.the_dead_are_silent.Goals as goal

pub returns : goal.returns
returns c = the-dead-are-silent
