use Rattle.std.proofs.Common.{arith}
use Rattle.uv_graph.proofs.tests.plays.comes_buried.Goals as goal

pub returns-then-out-object : goal.returns-then-out-object
returns-then-out-object c = λ lives told. record { out = c.in-Some.out; is = c.in-Some.is; object = omega (arith, c.if-out-object.true); deed = c.is_buried.ensures.any _ told }
