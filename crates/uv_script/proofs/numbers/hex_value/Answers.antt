use Rattle.uv_script.proofs.Values.{hex_value-over}
use Rattle.uv_script.proofs.numbers.hex_value.Goals as goal

pub returns-then-value-ge-LIMIT : goal.returns-then-value-ge-LIMIT
returns-then-value-ge-LIMIT c =
    hex_value-over c.loop-digit.value _ c.loop-digit.digit-index c.args.digits.now c.loop-digit-test.true c.loop-digit.invariant.0 c.hex_behind-value.ensures c.if-value-ge-LIMIT.true
