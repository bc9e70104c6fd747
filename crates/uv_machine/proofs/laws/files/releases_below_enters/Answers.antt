use Rattle.uv_machine.proofs.OfKinds.{releases_below_enters}
use Rattle.uv_machine.proofs.laws.files.releases_below_enters.Goals as goal

pub returns : goal.returns
returns c = releases_below_enters
