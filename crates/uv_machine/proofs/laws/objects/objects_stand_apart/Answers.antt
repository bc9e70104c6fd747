use Rattle.uv_machine.proofs.ObjectsApart.{objects_stand_apart}
use Rattle.uv_machine.proofs.laws.objects.objects_stand_apart.Goals as goal

pub returns : goal.returns
returns c = objects_stand_apart
