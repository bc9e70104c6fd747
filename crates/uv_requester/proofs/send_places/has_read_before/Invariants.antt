use Rattle.std.proofs.Common.{◌≡◌, drop}
use Rattle.uv_requester.specs.SendPlaces.{has_read_before}
use Rattle.uv_requester.proofs.send_places.has_read_before.Given as goal

abbrev pub invariant-loop-work : goal.invariant-loop-work
invariant-loop-work l = has_read_before l.mtu (drop l.work-index l.works) l.rest ≡ has_read_before l.mtu l.works l.at
