use Rattle.uv_region.proofs.Reaching.{action_untested}
use Rattle.uv_region.proofs.laws.action_changes_no_test.Goals as goal

pub returns : goal.returns
returns c = action_untested
