-- What the end of a desk tells: a log of all turns that fits what each seat saw.
use Rattle.std.specs.Prelude.{◌≡◌, ℕ, List, length, Option, Some}
use Rattle.uv_num.specs.Each.{Each}
use Rattle.uv_order.specs.declared.signed.Signed.{Signed}
use Rattle.uv_order.specs.Signed.{entries, AreBelow}
use Rattle.uv_order.specs.Seen.{Quiet}
use Rattle.uv_order.specs.Names.{AreNamed}
use Rattle.uv_desk.specs.Seats.{Placed, OneOf}

module _ {E O : Type 0} where
  -- what the seat saw begins the log, and it made nothing of the rest; its own part is the machine's
  abbrev pub SeatFits : (ℕ → O) → List (Signed E) → Placed E O → Type 0
  SeatFits own log s = Quiet s.number log s.seen × (s.own ≡ Some (own s.number))

  pub record Fits (history : List E) (own : ℕ → O) (names : E → Option ℕ) (seats : List (Placed E O)) : Type 0 where
    -- all turns in order, signed by the seats that made them; what stood at first is signed by nobody
    pub log : List (Signed E)
    pub log_is : entries log ≡ history
    pub named : AreNamed names log
    pub authors : AreBelow (length seats) log
    pub each : Each (SeatFits own log) seats
    -- the longest that a seat saw is all of it
    pub one_saw : OneOf (λ (s : Placed E O). s.seen ≡ log) seats
