use Rattle.std.proofs.Common.{◌≡◌, ◌≤◌, drop, length}
use Rattle.uv_desk.specs.Seats.{HasNumber}
use Rattle.uv_desk.proofs.closing.place_of.Given as goal

abbrev pub invariant-loop-at : goal.invariant-loop-at
invariant-loop-at g l = (l.at-end ≡ length l.seats) × (l.at ≤ l.at-end) × HasNumber l.number (drop l.at l.seats)
