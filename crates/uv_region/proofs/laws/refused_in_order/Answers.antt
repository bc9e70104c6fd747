use Rattle.uv_region.proofs.Journaling.{refused_in_turn}
use Rattle.uv_region.proofs.laws.refused_in_order.Goals as goal

pub returns : goal.returns
returns c = refused_in_turn
