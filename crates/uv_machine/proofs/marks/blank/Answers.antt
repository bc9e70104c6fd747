use Rattle.uv_machine.proofs.Marked.{is_marked-blank}
use Rattle.uv_machine.proofs.marks.blank.Goals as goal

pub returns : goal.returns
returns c = λ n. is_marked-blank 256 n
