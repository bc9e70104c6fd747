use Rattle.uv_world.proofs.FirstFit.{first_fits}
use Rattle.uv_world.proofs.laws.first_fits.Goals as goal

pub returns : goal.returns
returns c = first_fits
