use Rattle.std.proofs.Common.{◌≡◌, subst}
use Rattle.uv_engine.specs.declared.acting.Work.TheVariants.{Deliver}
use Rattle.uv_packet.specs.Packets.{Content, content_of}
use Rattle.uv_packet.specs.Reading.{content_at}
use Rattle.uv_world.specs.Acting.{TaskGives}
use Rattle.uv_world.specs.Holdings.{held_of}
use Rattle.uv_world.specs.Taking.PairTask.{TakesPacket}
use Rattle.uv_world.proofs.Asking.{answered, packet_read}
use Rattle.uv_world.proofs.contents.Contents.take_frame.Goals as goal

pub returns-in-Ok-clause-gives : goal.returns-in-Ok-clause-gives
returns-in-Ok-clause-gives c device r found places =
    let h = held_of c.args.self.now in
    let frame = c.args.frame in
    let read : content_of c.in-Ok.packet ≡ content_at frame.bytes.bytes = packet_read frame.bytes.bytes c.as_slice.result.now (content_of c.in-Ok.packet) c.as_slice.ensures c.requires.reads c.in-Ok.ensures.read in
    answered h (Deliver frame) r (TakesPacket frame.from frame.to (content_at frame.bytes.bytes)) c.act_at-did.result c.answer.result (held_of c.act_at-did.new.self)
    (subst (λ (p : Content). TaskGives h r (TakesPacket frame.from frame.to p) c.act_at-did.result (held_of c.act_at-did.new.self)) read (c.act_at-did.ensures.gives device r found places)) c.answer.ensures
