use Rattle.uv_world.proofs.Newness.{new_housed}
use Rattle.uv_world.proofs.contents.Contents.new.Goals as goal

pub returns-clause-housed : goal.returns-clause-housed
returns-clause-housed c = new_housed _ c.in_ok-contents.ensures
