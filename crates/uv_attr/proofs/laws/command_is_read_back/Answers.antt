use Rattle.uv_attr.proofs.Again.{command_accepted, command_read}
use Rattle.uv_attr.proofs.laws.command_is_read_back.Goals as goal

pub returns-clause-accepted : goal.returns-clause-accepted
returns-clause-accepted c = command_accepted

pub returns-clause-read : goal.returns-clause-read
returns-clause-read c = command_read
