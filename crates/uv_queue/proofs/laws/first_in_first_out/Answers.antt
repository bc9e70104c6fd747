use Rattle.uv_queue.proofs.Ordered.{in_order}
use Rattle.uv_queue.proofs.laws.first_in_first_out.Goals as goal

pub returns : goal.returns
returns g c = in_order
