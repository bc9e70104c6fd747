use Rattle.uv_machine.proofs.Meeting.{destroy_answers}
use Rattle.uv_machine.proofs.laws.lives.destroy_answers.Goals as goal

pub returns : goal.returns
returns c = destroy_answers
