use Rattle.std.proofs.Common.{◌≡◌, ◌<◌, drop}
use Rattle.uv_script.specs.Numbers.{decimal_from}
use Rattle.uv_script.proofs.numbers.decimal_value.Given as goal

abbrev pub invariant-loop-digit : goal.invariant-loop-digit
invariant-loop-digit l = (decimal_from l.value (drop l.digit-index l.digits) ≡ decimal_from 0 l.digits) × (l.value < 18446744073709551616)
