use Rattle.std.proofs.Common.{◌≡◌, ◌<◌, drop}
use Rattle.uv_script.specs.Numbers.{hex_from}
use Rattle.uv_script.proofs.numbers.hex_value.Given as goal

abbrev pub invariant-loop-digit : goal.invariant-loop-digit
invariant-loop-digit l = (hex_from l.value (drop l.digit-index l.digits) ≡ hex_from 0 l.digits) × (l.value < 18446744073709551616)
