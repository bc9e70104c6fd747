use Rattle.std.proofs.Common.{sym, ◌∙◌}
use Rattle.uv_engine.proofs.Framing.{framed_none, framed_one}
use Rattle.uv_engine.proofs.acting.frame_all.Goals as goal

pub frame_one-requires-clause-value : goal.frame_one-requires-clause-value
frame_one-requires-clause-value c = c.requires.out.value c.in-Some.packet.now (sym c.in-Some.ensures)

pub returns-in-None : goal.returns-in-None
returns-in-None c = rw c.no_frames.ensures (framed_none c.args.from c.args.to c.args.packets.now (sym c.in-None.ensures))

pub returns-in-Some : goal.returns-in-Some
returns-in-Some c = c.frame_one.ensures ∙ framed_one c.args.from c.args.to c.args.packets.now c.in-Some.packet.now c.requires.out.few (sym c.in-Some.ensures)
