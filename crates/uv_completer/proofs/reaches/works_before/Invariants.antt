use Rattle.std.proofs.Common.{◌≡◌, ◌+◌, drop}
use Rattle.uv_qp.specs.PacketCounts.{queue_packets}
use Rattle.uv_completer.specs.Reaches.{works_before}
use Rattle.uv_completer.proofs.reaches.works_before.Given as goal

abbrev pub invariant-loop-work : goal.invariant-loop-work
invariant-loop-work l = record {
  before : works_before l.mtu l.works l.at ≡ works_before l.mtu (drop l.work-index l.works) l.rest + l.count;
  count : l.count ≡ l.work-index;
  packets : queue_packets l.mtu l.works + l.rest ≡ queue_packets l.mtu (drop l.work-index l.works) + l.at;
}
