use Rattle.std.proofs.Common.{◌≡◌, ◌≤◌, ◌*◌, drop}
use Rattle.uv_completer.specs.Reaches.{oldest_read_from}
use Rattle.uv_completer.proofs.reaches.oldest_read.Given as goal

abbrev pub invariant-loop-work : goal.invariant-loop-work
invariant-loop-work l = record {
  read : oldest_read_from l.older l.start l.mtu (drop l.work-index l.works) ≡ oldest_read_from 0 0 l.mtu l.works;
  older : l.older ≡ l.work-index;
  near : l.start ≤ l.work-index * 64;
}
