use Rattle.uv_packet.specs.Packets.{content_of}
use Rattle.uv_engine.proofs.GoingOn.{request_goes_on}
use Rattle.uv_engine.proofs.acting.take_request_into.Goals as goal

pub returns-clause-goes_on : goal.returns-clause-goes_on
returns-clause-goes_on c =
    request_goes_on c.turns_go_on.ensures c.lent_regions_go_on.ensures c.names-from.result.device c.args.lent.now
    c.turn_request-done.new.lent c.finish.new.lent (content_of c.args.packet.now) c.turn_request-done.result c.finish.result
    c.turn_request-done.ensures.turned c.turn_request-done.ensures.goes_on c.finish.ensures
