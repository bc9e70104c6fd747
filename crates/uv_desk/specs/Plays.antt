-- What each kind of step tells its seat.
use Rattle.std.specs.Prelude.{◌≡◌, ◌≢◌, ℕ, ◌%◌, List, [], ◌∷◌, ◌++◌, Option, Some, None}
use Rattle.atomic_table.specs.Table.{Me, Step}
use Rattle.uv_num.specs.Prefix.{IsPrefix}
use Rattle.uv_order.specs.declared.signed.Signed.{Signed}
use Rattle.uv_order.specs.Signed.{entries, sign}
use Rattle.uv_order.specs.Seen.{longer, Quiet}
use Rattle.uv_order.specs.Names.{AreNamed}
use Rattle.uv_desk.specs.declared.view.View.{View}
use Rattle.uv_desk.specs.Rule.{turn}

module _ {M E O : Type 0} (history : M → List E) (own : M → ℕ → O) (names : E → Option ℕ) where
  abbrev pub Sat : Type 0
  Sat = Me (Option M) (View M E O)

  -- the seat has the slot, with this machine in it
  abbrev pub Has : Sat → M → Type 0
  Has me machine = me.1 ≡ (0, Some machine) ∷ []

  -- the machine m has this log, which goes on quietly from what the seat had seen, and this own part of the seat
  abbrev pub Reads : View M E O → M → List (Signed E) → Type 0
  Reads v m log = (entries log ≡ history m) × Quiet v.number log v.seen × AreNamed names log × (v.own ≡ Some (own m v.number))

  -- a look at the ticket that is served: where it is the seat's, the seat has the machine, and has seen its log
  abbrev pub looked : Step (Option M) → Sat → ℕ → Sat → Type 0
  looked st me n me' = (k : ℕ) → me.0.ticket ≡ Some k
      → (n ≡ k % turn → (m : M) × (log : List (Signed E)) × (me' ≡ (record me.0 { held = Some m; seen = log }, (0, Some m) ∷ me.1)) × Reads me.0 m log)
      × (n ≢ k % turn → me' ≡ me)

  -- the machine is back, with what the turn made, and the seat knows its own part of it
  abbrev pub passed : Sat → Sat → Type 0
  passed me me' = (m : M) (made : List E) → Has me m → history m ≡ entries me.0.seen ++ made
      → me' ≡ (record me.0 { ticket = None; held = None; seen = me.0.seen ++ sign me.0.number made; own = Some (own m me.0.number) }, [])

  -- the seat took the machine m out, with this log
  abbrev pub Took : Sat → M → Sat → Type 0
  Took me m me' = (k : ℕ) × (log : List (Signed E)) × (me' ≡ (record me.0 { ticket = Some k; held = Some m; seen = log }, (0, None) ∷ [])) × Reads me.0 m log

module _ {M E O : Type 0} where
  -- the seat has the ticket whose number was found
  abbrev pub drew : Step (Option M) → Me (Option M) (View M E O) → ℕ → Me (Option M) (View M E O) → Type 0
  drew st me n me' = (k : ℕ) × (n ≡ k % turn) × (me' ≡ (record me.0 { ticket = Some k }, me.1))

  -- the seat has seen the longer of what it had seen and what it was told; of what it learned nothing is its own
  abbrev pub learned : (E → Option ℕ) → Me (Option M) (View M E O) → Me (Option M) (View M E O) → Type 0
  learned names me me' = let both : List (Signed E) = longer me.0.seen me.0.told in
      (me' ≡ (record me.0 { seen = both; told = [] }, me.1)) × Quiet me.0.number both me.0.seen × IsPrefix me.0.told both × AreNamed names both
