-- Seats as their callers see them, and as the calls of a desk hand them on.
use Rattle.std.specs.Prelude.{◌≡◌, ◌⊎◌, ℕ, suc, zero, ◌+◌, ◌-◌, ◌<◌, true, List, [], ◌∷◌, length, Option, Some, None}
use Rattle.atomic_table.specs.Table.{Me}
use Rattle.atomic_table.specs.Seated.{TableId}
use Rattle.atomic_table.specs.declared.shared.Seat.{Seat}
use Rattle.uv_num.specs.Each.{Each}
use Rattle.uv_order.specs.declared.signed.Signed.{Signed}
use Rattle.uv_order.specs.Signed.{nobody, sign}
use Rattle.uv_desk.specs.declared.view.View.{View}
use Rattle.uv_desk.specs.declared.view.Kept.{Kept}

-- a seat between its turns
pub record Placed (E O : Type 0) : Type 0 where
  -- the desk that it is a seat of
  pub desk : TableId
  pub number : ℕ
  -- how many seats there are, at the one numbered 0; at each other 0
  pub count : ℕ
  -- the beginning of the history that it has seen, signed
  pub seen : List (Signed E)
  -- its own part of the machine, after that beginning
  pub own : Option O

-- a fact is true of one item of a list
abbrev pub OneOf : {X : Type 0} → (X → Type 0) → List X → Type 0
OneOf P [] = ⊥
OneOf P (x ∷ xs) = P x ⊎ OneOf P xs

module _ {E O : Type 0} where
  abbrev pub HasNumber : ℕ → List (Placed E O) → Type 0
  HasNumber n seats = OneOf (λ (s : Placed E O). s.number ≡ n) seats

  -- seats of one desk, as many as the numbers from `from` on that they have
  abbrev pub AreAllFrom : TableId → ℕ → List (Placed E O) → Type 0
  AreAllFrom desk from seats = Each (λ (s : Placed E O). s.desk ≡ desk) seats × ((k : ℕ) → k < length seats → HasNumber (from + k) seats)

  -- all seats of the desk, in whichever order
  pub record IsAll (desk : TableId) (seats : List (Placed E O)) : Type 0 where
    pub all : AreAllFrom desk 0 seats
    pub some : 0 < length seats
    pub counted : Each (λ (s : Placed E O). s.number ≡ 0 → s.count ≡ length seats) seats

  -- the seats `from`, `from + 1` and so on of a desk, in order
  abbrev pub AreSeats : TableId → ℕ → List (Placed E O) → Type 0
  AreSeats desk from [] = Unit {0}
  AreSeats desk from (s ∷ seats) = (s.desk ≡ desk) × (s.number ≡ from) × AreSeats desk (from + 1) seats

  -- seat n as it is made, over this history and these own parts
  abbrev pub fresh : TableId → ℕ → ℕ → List E → (ℕ → O) → Placed E O
  fresh desk n count history own = record { desk = desk; number = n; count = count; seen = sign nobody history; own = Some (own n) }

  -- `more` seats from n on
  abbrev pub freshes : TableId → ℕ → ℕ → List E → (ℕ → O) → List (Placed E O)
  freshes desk n zero history own = []
  freshes desk n (suc more) history own = fresh desk n 0 history own ∷ freshes desk (n + 1) more history own

  -- all seats of a new desk
  abbrev pub all_fresh : TableId → ℕ → List E → (ℕ → O) → List (Placed E O)
  all_fresh desk count history own = fresh desk 0 count history own ∷ freshes desk 1 (count - 1) history own

  abbrev pub kept_by : Placed E O → Kept E O
  kept_by s = record { number = s.number; seen = s.seen; own = s.own }

-- a desk's table has two words and one slot
abbrev pub IsSized : TableId → Type 0
IsSized t = (t.words ≡ 2) × (t.slots ≡ 1)

module _ {M E O : Type 0} where
  -- the seat has a number, no ticket, and no machine
  abbrev pub IsReady : Me (Option M) (View M E O) → Type 0
  IsReady me = (me.0.numbered ≡ true) × (me.0.ticket ≡ None) × (me.0.held ≡ None) × (me.1 ≡ [])

  -- one seat of one table, before and after
  abbrev pub IsSame : Seat (Option M) (View M E O) → Seat (Option M) (View M E O) → Type 0
  IsSame s t = (t.table_id ≡ s.table_id) × (t.id ≡ s.id)

  abbrev pub placed : Seat (Option M) (View M E O) → Placed E O
  placed s = record { desk = s.table_id; number = s.me.0.number; count = s.me.0.whole; seen = s.me.0.seen; own = s.me.0.own }

  -- a seat between its turns, while no seat was joined to it
  abbrev pub IsPlaced : ℕ → Me (Option M) (View M E O) → Type 0
  IsPlaced n me = IsReady me × (me.0.number ≡ n) × (me.0.next ≡ me.0.whole) × (me.0.joined ≡ [])

  -- the first seat, when it has made the seats below k, and no turn was taken
  abbrev pub IsOpen : (M → List E) → (M → ℕ → O) → M → ℕ → Me (Option M) (View M E O) → Type 0
  IsOpen history own m k me = IsReady me × (me.0.number ≡ 0) × (me.0.whole ≡ k) × (me.0.next ≡ k) × (me.0.joined ≡ []) × (me.0.start ≡ Some m) × (me.0.seen ≡ sign nobody (history m)) × (me.0.own ≡ Some (own m 0))

  -- the first seat, which stands for the numbers from `whole` on
  abbrev pub IsFirst : ℕ → Me (Option M) (View M E O) → Type 0
  IsFirst whole me = IsReady me × (me.0.number ≡ 0) × (me.0.whole ≡ whole)
