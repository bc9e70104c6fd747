use Rattle.uv_engine.proofs.Apart.{wants_apart}
use Rattle.uv_engine.proofs.laws.wants_apart.Goals as goal

pub returns : goal.returns
returns c = wants_apart
