use Rattle.std.proofs.Common.{◌≡◌, ◌≤◌, length}
use Rattle.uv_run.specs.DataPath.{polled_up_to, with_held}
use Rattle.uv_run.specs.Runs.{StaysSound}
use Rattle.uv_run.specs.Sound.{site_of}
use Rattle.uv_run.proofs.DataPath.{polls_with}
use Rattle.uv_run.proofs.flights.Flights.poll_up_to.Given as goal

abbrev pub invariant-loop : goal.invariant-loop
invariant-loop l =
    (polls_with (site_of l.self).held l.taken l.last ≡ polled_up_to l.counter (site_of l.initial.self).held l.cq) × (site_of l.self ≡ with_held (site_of l.initial.self) (site_of l.self).held) × (length l.taken ≤ l.counter)
    × StaysSound l.initial.self l.self
