use Rattle.uv_attr.proofs.Cutting.{accepted_is_command}
use Rattle.uv_attr.proofs.laws.accepted_bytes_are_a_command.Goals as goal

pub returns : goal.returns
returns c = accepted_is_command
