use Rattle.std.proofs.Common.{Some}
use Rattle.uv_packet.specs.Packets.{content_of}
use Rattle.uv_engine.specs.Acting.{response_action}
use Rattle.uv_engine.proofs.GoingOn.{gives_goes_on, response_goes_on}
use Rattle.uv_engine.proofs.acting.take_response.Goals as goal

pub returns-clause-goes_on : goal.returns-clause-goes_on
returns-clause-goes_on c =
    let l = c.args.lent.now in
    let p = content_of c.args.packet.now in
    gives_goes_on c.turns_go_on.ensures c.lent_regions_go_on.ensures l (Some (response_action l p)) c.make_response.result c.make_response.new.lent
    (response_goes_on l p c.replies_go_on.ensures) c.make_response.ensures
