use Rattle.uv_machine.proofs.laws.numbers.make_has_room.Goals as goal
use Rattle.uv_machine.proofs.Numbers.{makes_with_room}

pub returns : goal.returns
returns c = makes_with_room
