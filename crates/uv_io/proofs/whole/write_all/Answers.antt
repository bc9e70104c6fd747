use Rattle.std.proofs.Common.{arith, length-drop, length-take}
use Rattle.uv_io.proofs.Known.{appends_next}
use Rattle.uv_io.proofs.whole.write_all.Goals as goal

pub loop-done-preserved : goal.loop-done-preserved
loop-done-preserved g c = record {
  within = grind (arith, length-drop, length-take, c.in-Ok.ensures.bound);
  written = appends_next _ _ _ _ _ _ c.loop-done.invariant.written c.in-Ok.ensures.bytes;
  later = grind (arith, c.in-Ok.ensures.cause.later);
}
