use Rattle.std.proofs.Common.{◌≡◌, ◌≤◌, ◌+◌, ◌*◌, drop}
use Rattle.uv_requester.specs.SendPlaces.{located}
use Rattle.uv_requester.proofs.send_places.locate.Given as goal

abbrev pub invariant-loop-work : goal.invariant-loop-work
invariant-loop-work l = record {
  located : located l.place l.mtu (drop l.work-index l.works) l.rest ≡ located 0 l.mtu l.works l.at;
  place : l.place ≡ l.work-index;
  near : l.at ≤ l.rest + l.work-index * 64;
}
