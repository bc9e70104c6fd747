use Rattle.uv_machine.proofs.FilesApart.{phase_of-apart}
use Rattle.uv_machine.proofs.laws.teardowns.files_stand_apart.Goals as goal

pub returns : goal.returns
returns c = phase_of-apart
