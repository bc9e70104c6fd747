use Rattle.std.proofs.Common.{◌≡◌, ◌≤◌, ◌-◌}
use Rattle.std.specs.Prelude.{vec_len, vec_capacity}
use Rattle.uv_guard.specs.Cells.{tables}
use Rattle.uv_guard.specs.Seated.{fresh_seats, fresh_deeds}
use Rattle.uv_guard.proofs.makes.seat_all.Given as goal

abbrev pub invariant-loop-n : goal.invariant-loop-n
invariant-loop-n g l =
    (l.n ≤ l.count) × (l.deeds.items ≡ fresh_deeds l.n (tables l.cells.items)) × (l.seats.items ≡ fresh_seats (tables l.cells.items) 0 l.n) × (vec_len l.seats ≡ l.n) × (32 ≤ vec_capacity l.seats)

abbrev pub decreases-loop-n : goal.decreases-loop-n
decreases-loop-n g l = l.count - l.n
