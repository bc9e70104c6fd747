use Rattle.std.proofs.Common.{arith}
use Rattle.uv_attr.proofs.Cutting.{answer_is_command}
use Rattle.uv_attr.proofs.decoding.decode_call.Goals as goal

pub returns-clause-command : goal.returns-clause-command
returns-clause-command c = answer_is_command c.args.bytes.now c.read_call.result (λ i. omega (arith, c.type_inv.bytes i)) c.read_call.ensures.accepted c.read_call.ensures.read
