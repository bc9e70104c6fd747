use Rattle.uv_region.proofs.Reaching.{room_untested}
use Rattle.uv_region.proofs.laws.room_changes_no_test.Goals as goal

pub returns : goal.returns
returns c = room_untested
