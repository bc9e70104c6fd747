-- What the calls on one cell ask and tell of views.
use Rattle.std.specs.Prelude.{◌≡◌, ℕ, ◌<◌, ◌≤◌, List, [], ◌∷◌, ◌++◌, Option, Some, None}
use Rattle.atomic_table.specs.declared.shared.Seat.{Seat}
use Rattle.uv_order.specs.declared.signed.TheConstants.{SEATS}
use Rattle.uv_guard.specs.declared.cell.Entering.{Entering}
use Rattle.uv_guard.specs.declared.cell.Entering.TheVariants.{Entered, Dead, Taken}
use Rattle.uv_guard.specs.declared.life.Stage.{Stage}
use Rattle.uv_guard.specs.declared.view.Found.{Found}
use Rattle.uv_guard.specs.declared.view.Held.{Held}
use Rattle.uv_guard.specs.declared.view.View.{View}
use Rattle.uv_guard.specs.declared.view.Role.TheVariants.{Taker, Owner}
use Rattle.uv_guard.specs.Lives.{IsAfter, IsOf}
use Rattle.uv_guard.specs.Words.{life_word, turn_word, IsLive, IsTurn, IsBusy}
use Rattle.uv_guard.specs.Steps.{Sat, last, finding, taking, buried_view}

module _ {T : Type 0} where
  abbrev pub IsSame : Seat (Option T) (View T) → Seat (Option T) (View T) → Type 0
  IsSame s t = (t.table_id ≡ s.table_id) × (t.id ≡ s.id)

  -- seat n, out of the cell
  abbrev pub IsOut : ℕ → Sat T → Type 0
  IsOut n m = (m.0.role ≡ Taker) × (m.0.number ≡ n) × (n < SEATS) × (m.0.entered ≡ None) × (m.0.refers ≡ None) × (m.1 ≡ [])

  -- seat n, in the cell with what it holds
  abbrev pub IsIn : ℕ → Held T → Sat T → Type 0
  IsIn n h m = (m.0.role ≡ Taker) × (m.0.number ≡ n) × (n < SEATS) × (m.0.entered ≡ Some h) × (m.1 ≡ (0, None) ∷ [])

  -- the deed of the generation g, which holds no slot
  abbrev pub IsAt : Stage T → ℕ → Sat T → Type 0
  IsAt stage g m = (m.0.role ≡ Owner) × (m.0.stage ≡ stage) × (m.0.generation ≡ g) × (g ≤ last) × (m.1 ≡ [])

  -- the seat has entered with x
  abbrev pub came_in : Sat T → List Found → ℕ → ℕ → T → Sat T
  came_in m ws k g x = (record m.0 { refers = Some g; found = ws; entered = Some record { number = k; generation = g; value = x } }, (0, None) ∷ [])

  -- A try to enter, with the words that it found: the life and the turn of a live cell, whose value goes on from all that the seat knows of this life; or
  -- the life of a cell that isn't live at this generation; or another seat in the cell.
  abbrev pub ChairEnters : (T → T → Type 0) → ℕ → Sat T → Entering T → Sat T → Type 0
  ChairEnters goes_on g m (Entered x) m' = (w n k : ℕ) × (m' ≡ came_in m (life_word w ∷ turn_word n ∷ []) k g x) × IsLive g w × IsTurn k n × IsAfter goes_on g m.0.took x × IsOf goes_on g m.0.plants x
  ChairEnters goes_on g m (Dead w) m' = (m' ≡ finding m (life_word w ∷ [])) × ¬ IsLive g w
  ChairEnters goes_on g m (Taken w) m' = (ws : List Found) × (m' ≡ finding m ws) × IsBusy g ws w

  -- the seat has left with y
  abbrev pub came_out : Sat T → Held T → T → Sat T
  came_out m h y = (record m.0 { refers = None; entered = None; took = m.0.took ++ taking h y ∷ [] }, [])

  -- what the deed gave goes on from what it planted, and the life is over
  abbrev pub Retires : (T → T → Type 0) → T → Sat T → T → Sat T → Type 0
  Retires goes_on p m x m' = goes_on p x × (m' ≡ (buried_view m.0 p x, []))
