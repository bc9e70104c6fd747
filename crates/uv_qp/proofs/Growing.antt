-- The packets of a queue that grows.
use Rattle.std.proofs.Common.{ℕ, ◌≤◌, List, [], ◌∷◌, ◌++◌, arith}
use Rattle.uv_wr.specs.Works.{Sending}
use Rattle.uv_qp.specs.declared.state.Requester.{Requester}
use Rattle.uv_qp.specs.PacketCounts.{queue_packets}
use Rattle.uv_qp.specs.Pairs.{IsRequesting}

pub queue_packets_grow : (mtu : ℕ) (ws : List Sending) (w : Sending) → queue_packets mtu ws ≤ queue_packets mtu (ws ++ w ∷ [])
queue_packets_grow mtu [] w = omega arith
queue_packets_grow mtu (v ∷ ws) w = omega (arith, queue_packets_grow mtu ws w)

-- what is within so many packets is within more
pub requesting_more : (r : Requester) (few many : ℕ) → IsRequesting r few → few ≤ many → IsRequesting r many
requesting_more r few many h more = record {
  base = h.base;
  una = h.una;
  next = h.next;
  high = omega (arith, h.high, more);
  asked = h.asked;
  retried = h.retried;
  unready = h.unready;
}

pub requesting_grows : (r : Requester) (mtu : ℕ) (ws : List Sending) (w : Sending) → IsRequesting r (queue_packets mtu ws) → IsRequesting r (queue_packets mtu (ws ++ w ∷ []))
requesting_grows r mtu ws w h = requesting_more r _ _ h (queue_packets_grow mtu ws w)
