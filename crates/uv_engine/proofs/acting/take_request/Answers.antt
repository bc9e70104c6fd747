use Rattle.uv_engine.proofs.GoingOn.{same_goes_on}
use Rattle.uv_engine.proofs.acting.take_request.Goals as goal

pub returns-in-Err-clause-goes_on : goal.returns-in-Err-clause-goes_on
returns-in-Err-clause-goes_on c = same_goes_on c.turns_go_on.ensures c.lent_regions_go_on.ensures c.args.lent.now
