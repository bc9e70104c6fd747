-- What each step of a cell makes of a view, and what it tells.
use Rattle.std.specs.Prelude.{◌≡◌, ◌≢◌, ℕ, suc, ◌%◌, List, [], ◌∷◌, ◌++◌, cond, nat_eq, Option, Some, None}
use Rattle.atomic_table.specs.Table.{Me, Step}
use Rattle.uv_num.specs.declared.limits.TheConstants.{MOST_GENERATION}
use Rattle.uv_order.specs.declared.taken.Taken.{Taken}
use Rattle.uv_guard.specs.declared.life.Stage.{Stage}
use Rattle.uv_guard.specs.declared.life.Stage.TheVariants.{Home, Filling, Planted, Doomed, Clear, Spent}
use Rattle.uv_guard.specs.declared.view.Found.{Found}
use Rattle.uv_guard.specs.declared.view.Held.{Held}
use Rattle.uv_guard.specs.declared.view.Kept.{Kept}
use Rattle.uv_guard.specs.declared.view.View.{View}
use Rattle.uv_guard.specs.declared.view.Role.TheVariants.{Taker, Owner, Gone}
use Rattle.uv_guard.specs.Lives.{IsAfter, IsOf}
use Rattle.uv_guard.specs.Words.{found_at, life_word, IsLive, IsTurn}

-- a view, and the slot if it is out
abbrev pub Sat : Type 0 → Type 0
Sat T = Me (Option T) (View T)

-- the last generation
abbrev pub last : ℕ
last = MOST_GENERATION

-- the generation that bury writes
abbrev pub generation_after : ℕ → ℕ
generation_after g = cond (nat_eq g last) g (suc g)

module _ {T : Type 0} where
  abbrev pub stage_after : ℕ → Stage T
  stage_after g = cond (nat_eq g last) Spent Home

  -- a taking that was given back with y
  abbrev pub taking : Held T → T → Taken T
  taking h y = record { number = h.number; generation = h.generation; entered = h.value; left = y }

  -- the views that are made: of the deed, of a seat, and of nobody
  abbrev pub first_view : View T
  first_view = record { role = Owner; number = 0; refers = None; entered = None; found = []; took = []; plants = []; lives = []; stage = Home; generation = 0; given = 0; kept = [] }

  abbrev pub seat_view : ℕ → View T
  seat_view n = record { role = Taker; number = n; refers = None; entered = None; found = []; took = []; plants = []; lives = []; stage = Home; generation = 0; given = 0; kept = [] }

  abbrev pub gone_view : View T
  gone_view = record { role = Gone; number = 0; refers = None; entered = None; found = []; took = []; plants = []; lives = []; stage = Home; generation = 0; given = 0; kept = [] }

  -- who tells what the deed knows of the cell's lives
  abbrev pub teller : View T → View T
  teller v = record { role = Gone; number = 0; refers = None; entered = None; found = []; took = []; plants = v.plants; lives = v.lives; stage = Home; generation = 0; given = 0; kept = [] }

  abbrev pub told_by : View T → View T → View T
  told_by v w = record v { plants = w.plants; lives = w.lives }

  abbrev pub one_given : View T → View T
  one_given v = record v { given = suc v.given }

  abbrev pub kept_of : View T → Kept T
  kept_of w = record { number = w.number; took = w.took; plants = w.plants; lives = w.lives }

  abbrev pub with_kept : View T → Kept T → View T
  with_kept v k = record v { kept = k ∷ v.kept }

  -- the seat refers to the generation that was found live
  abbrev pub referred : Sat T → ℕ → Sat T → Type 0
  referred m n m' = (r : Option ℕ) × (m' ≡ (record m.0 { refers = r; found = life_word n ∷ [] }, m.1)) × ((g : ℕ) → IsLive g n → r ≡ Some g)

  -- a seat that found these words
  abbrev pub finding : Sat T → List Found → Sat T
  finding m ws = (record m.0 { found = ws }, m.1)

  -- a seat that found this word too
  abbrev pub finding_more : Sat T → Found → Sat T
  finding_more m w = finding m (m.0.found ++ w ∷ [])

  abbrev pub unreferred : Sat T → Sat T → Type 0
  unreferred m m' = m' ≡ (record m.0 { refers = None }, m.1)

  -- the seat has the turn where it found the number, and with it a value that goes on from all that it knows of this life
  abbrev pub turned : (T → T → Type 0) → Step (Option T) → Sat T → ℕ → Sat T → Type 0
  turned goes_on st m n m' =
      (n ≡ st.first → (h : Held T) × (m' ≡ (record m.0 { entered = Some h }, (0, Some h.value) ∷ m.1)) × (m.0.refers ≡ Some h.generation) × IsAfter goes_on h.generation m.0.took h.value × IsOf goes_on h.generation m.0.plants h.value × IsTurn h.number n)
      × (n ≢ st.first → m' ≡ finding_more m (found_at st.word n))

  abbrev pub gave : Sat T → Sat T → Type 0
  gave m m' = (h : Held T) (y : T) → m.0.entered ≡ Some h → m.1 ≡ (0, Some y) ∷ [] → m' ≡ (record m.0 { entered = None; took = m.0.took ++ taking h y ∷ [] }, [])

  abbrev pub filled : Sat T → Sat T → Type 0
  filled m m' = m' ≡ (record m.0 { stage = Filling }, (0, None) ∷ m.1)

  abbrev pub planted : Sat T → Sat T → Type 0
  planted m m' = (y : T) → m.1 ≡ (0, Some y) ∷ [] → m' ≡ (record m.0 { stage = Planted y; plants = m.0.plants ++ record { generation = m.0.generation; value = y } ∷ [] }, [])

  abbrev pub doomed : Sat T → Sat T → Type 0
  doomed m m' = (p : T) → m.0.stage ≡ Planted p → m' ≡ (record m.0 { stage = Doomed p }, m.1)

  -- a doomed deed that finds no reference has the value
  abbrev pub looked : (T → T → Type 0) → Sat T → ℕ → Sat T → Type 0
  looked goes_on m n m' = (p : T) → m.0.stage ≡ Doomed p
      → (n % 4294967296 ≡ 0 → (x : T) × (m' ≡ (record m.0 { stage = Clear p x }, (0, Some x) ∷ m.1)) × goes_on p x)
      × (n % 4294967296 ≢ 0 → m' ≡ m)

  -- the view of a deed that buried a cell in which p was planted and from which x was taken
  abbrev pub buried_view : View T → T → T → View T
  buried_view v p x = record v { stage = stage_after v.generation; generation = generation_after v.generation; lives = v.lives ++ record { generation = v.generation; planted = p; given = x } ∷ [] }

  abbrev pub buried : Sat T → Sat T → Type 0
  buried m m' = (p x : T) → m.0.stage ≡ Clear p x → m' ≡ (buried_view m.0 p x, [])
