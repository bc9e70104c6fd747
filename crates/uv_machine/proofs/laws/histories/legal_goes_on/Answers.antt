use Rattle.uv_machine.specs.States.{start}
use Rattle.uv_machine.proofs.GoingOn.{IsLegalFrom-snoc}
use Rattle.uv_machine.proofs.laws.histories.legal_goes_on.Goals as goal

pub returns : goal.returns
returns c = IsLegalFrom-snoc start
