-- What the seats of a counter know at its end.
use Rattle.std.proofs.Common.{ℕ, List, [], ◌∷◌}
use Rattle.uv_order.specs.declared.signed.Signed.{Signed}
use Rattle.uv_num.specs.Each.{Each}
use Rattle.uv_desk.specs.declared.counter.Added.{Added}
use Rattle.uv_desk.specs.Seats.{Placed}
use Rattle.uv_desk.specs.Fits.{SeatFits}
use Rattle.uv_desk.specs.Counting.{added_by, AreCounted}

pub are_counted : (entries : List Added) (log : List (Signed Added)) (seats : List (Placed Added ℕ)) → Each (SeatFits (added_by entries) log) seats → AreCounted entries seats
are_counted entries log [] e = tt
are_counted entries log (s ∷ seats) e = (e.0.1, are_counted entries log seats e.1)
