use Rattle.uv_order.proofs.Signing.{signing}
use Rattle.uv_order.proofs.Seeing.{seeing}
use Rattle.uv_order.proofs.Naming.{naming}
use Rattle.uv_order.proofs.laws.log_laws.Goals as goal

pub returns : goal.returns
returns g c = record { signing = signing _; seeing = seeing _; naming = naming _ }
