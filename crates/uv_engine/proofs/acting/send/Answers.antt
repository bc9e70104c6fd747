use Rattle.uv_engine.specs.Acting.{send_action}
use Rattle.uv_engine.proofs.GoingOn.{gives_goes_on, send_goes_on}
use Rattle.uv_engine.proofs.acting.send.Goals as goal

pub returns-clause-goes_on : goal.returns-clause-goes_on
returns-clause-goes_on c =
    let l = c.args.lent.now in
    gives_goes_on c.turns_go_on.ensures c.lent_regions_go_on.ensures l (send_action l) c.make_send.result c.make_send.new.lent
    (send_goes_on l c.send_turns_go_on.ensures) c.make_send.ensures
