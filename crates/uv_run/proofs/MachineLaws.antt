-- The machine's laws that the run stands on.
use Rattle.uv_machine.specs.States.{start}
use Rattle.uv_machine.specs.Laws.{StateGoesOn, PhasesStandApart, FilesStandApart}
use Rattle.uv_machine.proofs.GoingOn.{state_from-snoc}
use Rattle.uv_machine.proofs.Phases.{phase_of-after}
use Rattle.uv_machine.proofs.FilesApart.{phase_of-apart}

pub state_goes_on : StateGoesOn
state_goes_on = state_from-snoc start

pub phases_stand_apart : PhasesStandApart
phases_stand_apart = phase_of-after

pub files_stand_apart : FilesStandApart
files_stand_apart = phase_of-apart
