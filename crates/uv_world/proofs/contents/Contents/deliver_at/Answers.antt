use Rattle.std.proofs.Common.{◌∙◌, Some, sym}
use Rattle.uv_engine.specs.declared.acting.Work.TheVariants.{Deliver}
use Rattle.uv_packet.specs.Reading.{content_at}
use Rattle.uv_world.specs.Holdings.{held_of}
use Rattle.uv_world.specs.Taking.PairTask.{TakesPacket}
use Rattle.uv_world.proofs.Asking.{are_places, ready_gives}
use Rattle.uv_world.proofs.contents.Contents.deliver_at.Goals as goal

pub take_frame-requires-clause-places : goal.take_frame-requires-clause-places
take_frame-requires-clause-places c = are_places (held_of c.args.self.now) c.args.at (Some c.args.frame.to) c.in-Some.x (sym c.in-Some.is ∙ c.places.ensures)

pub returns-in-Some-clause-gives : goal.returns-in-Some-clause-gives
returns-in-Some-clause-gives c =
    let frame = c.args.frame in
    ready_gives (held_of c.args.self.now) (Deliver frame) c.args.at (Some frame.to) (TakesPacket frame.from frame.to (content_at frame.bytes.bytes)) c.in-Some.x c.take_frame.result (held_of c.take_frame.new.self)
    (sym c.in-Some.is ∙ c.places.ensures) (c.take_frame.ensures.gives (Some frame.to))
