use Rattle.std.proofs.Common.{◌++◌, take, arith, length-append, length-take}
use Rattle.uv_io.proofs.Known.{consumes_more}
use Rattle.uv_io.proofs.whole.read_all.Goals as goal

pub returns-then-is_err-clause-gives : goal.returns-then-is_err-clause-gives
returns-then-is_err-clause-gives g c = record {
  bytes = c.loop-turn.all.items ++ take c.in-Ok.count c.read.new.buf;
  consumed = consumes_more _ _ _ _ _ c.loop-turn.invariant.consumed c.in-Ok.ensures.bytes.0;
  bound = grind (arith, length-append, length-take);
}
