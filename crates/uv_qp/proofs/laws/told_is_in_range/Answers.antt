use Rattle.uv_qp.proofs.Keeping.{dqpn_or_zero, mtu_most}
use Rattle.uv_qp.proofs.laws.told_is_in_range.Goals as goal

pub returns : goal.returns
returns c = λ p h. record { mtu = mtu_most p.kept h.kept; peer = dqpn_or_zero p.kept h.kept }
