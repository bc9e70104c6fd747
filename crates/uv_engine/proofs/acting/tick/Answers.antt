use Rattle.uv_engine.specs.Acting.{tick_action}
use Rattle.uv_engine.proofs.GoingOn.{gives_goes_on, tick_goes_on}
use Rattle.uv_engine.proofs.acting.tick.Goals as goal

pub returns-clause-goes_on : goal.returns-clause-goes_on
returns-clause-goes_on c =
    let l = c.args.lent.now in
    gives_goes_on c.turns_go_on.ensures c.lent_regions_go_on.ensures l (tick_action l) c.make_tick.result c.make_tick.new.lent
    (tick_goes_on c.lent_regions_go_on.ensures l c.ticks_go_on.ensures) c.make_tick.ensures
