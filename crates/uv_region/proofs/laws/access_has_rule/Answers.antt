use Rattle.uv_region.proofs.Ruling.{access_has}
use Rattle.uv_region.proofs.laws.access_has_rule.Goals as goal

pub returns : goal.returns
returns c = access_has
