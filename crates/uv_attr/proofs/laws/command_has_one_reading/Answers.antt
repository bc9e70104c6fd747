use Rattle.std.proofs.Common.{sym, ◌∙◌}
use Rattle.uv_attr.proofs.Again.{command_read}
use Rattle.uv_attr.proofs.laws.command_has_one_reading.Goals as goal

pub returns : goal.returns
returns c = λ bytes a b a-fits b-fits a-is b-is. sym (command_read bytes a a-fits a-is) ∙ command_read bytes b b-fits b-is
