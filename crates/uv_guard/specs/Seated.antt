-- A guard's seats and deeds as their callers see them, and what each call makes of them.
use Rattle.std.specs.Prelude.{Bool, true, false, ◌≡◌, ◌⊎◌, ℕ, zero, suc, ◌<◌, ◌≤◌, List, [], ◌∷◌, ◌++◌, length, map, replicate, slice_set, slice_get, slice_index_or, Option, Some, None}
use Rattle.atomic_table.specs.Seated.{TableId}
use Rattle.atomic_table.specs.declared.shared.Seat.{Seat}
use Rattle.uv_num.specs.declared.limits.TheConstants.{CELLS}
use Rattle.uv_num.specs.Each.{Each}
use Rattle.uv_order.specs.declared.taken.Taken.{Taken}
use Rattle.uv_guard.specs.declared.life.Stage.{Stage}
use Rattle.uv_guard.specs.declared.life.Stage.TheVariants.{Home, Filling, Planted, Doomed, Clear, Spent}
use Rattle.uv_guard.specs.declared.life.Planting.{Planting}
use Rattle.uv_guard.specs.declared.life.Life.{Life}
use Rattle.uv_guard.specs.declared.view.Found.{Found}
use Rattle.uv_guard.specs.declared.view.Held.{Held}
use Rattle.uv_guard.specs.declared.view.View.{View}
use Rattle.uv_guard.specs.declared.view.Kept.{Kept}
use Rattle.uv_guard.specs.declared.view.Role.TheVariants.{Owner}
use Rattle.uv_guard.specs.Steps.{Sat, last, taking, generation_after, stage_after}
use Rattle.uv_guard.specs.Calls.{IsOut, IsIn}

-- what a seat was told of a cell's plantings and lives
pub record Met (T : Type 0) : Type 0 where
  pub plants : List (Planting T)
  pub lives : List (Life T)

-- a seat at one cell
pub record PlacedSeat (T : Type 0) : Type 0 where
  pub cell : TableId
  pub number : ℕ
  pub found : List Found
  pub held : Option (Held T)
  pub took : List (Taken T)
  pub met : Met T

-- A seat of a guard. The lists go by cell: the words that it found there at its last call, what it holds there, what it took and gave back, and what it was told.
pub record Seated (T : Type 0) : Type 0 where
  pub number : ℕ
  pub guard : List TableId
  pub found : List (List Found)
  pub held : List (Option (Held T))
  pub took : List (List (Taken T))
  pub met : List (Met T)

-- A deed: its cell, how many seats its guard has, how far it is, all plantings and lives of the cell, and what the seats knew
-- that were joined to it, which is done only at the end of the guard.
pub record Deeded (T : Type 0) : Type 0 where
  pub cell : TableId
  pub index : ℕ
  pub seats : ℕ
  pub generation : ℕ
  pub stage : Stage T
  pub plants : List (Planting T)
  pub lives : List (Life T)
  pub kept : List (Kept T)

module _ {X : Type 0} where
  -- one more in the list at that place
  abbrev pub more_at : List (List X) → ℕ → X → List (List X)
  more_at [] i x = []
  more_at (l ∷ ls) zero x = (l ++ x ∷ []) ∷ ls
  more_at (l ∷ ls) (suc i) x = l ∷ more_at ls i x

module _ {T : Type 0} where
  abbrev pub met_none : Met T
  met_none = record { plants = []; lives = [] }

  -- what is known of a view
  abbrev pub met_of : View T → Met T
  met_of v = record { plants = v.plants; lives = v.lives }

  abbrev pub placed : Seat (Option T) (View T) → PlacedSeat T
  placed c = record { cell = c.table_id; number = c.me.0.number; found = c.me.0.found; held = c.me.0.entered; took = c.me.0.took; met = met_of c.me.0 }

  -- a seat out of the cell, or in it
  abbrev pub IsPlaced : ℕ → Sat T → Type 0
  IsPlaced n m = IsOut n m ⊎ ((h : Held T) × IsIn n h m)

  abbrev pub seated : ℕ → List (PlacedSeat T) → Seated T
  seated n ps = record { number = n; guard = map (λ (p : PlacedSeat T). p.cell) ps; found = map (λ (p : PlacedSeat T). p.found) ps; held = map (λ (p : PlacedSeat T). p.held) ps; took = map (λ (p : PlacedSeat T). p.took) ps; met = map (λ (p : PlacedSeat T). p.met) ps }

  -- the places of one seat
  abbrev pub AreOwn : ℕ → List (PlacedSeat T) → Type 0
  AreOwn n ps = Each (λ (p : PlacedSeat T). p.number ≡ n) ps

  abbrev pub deeded : ℕ → Seat (Option T) (View T) → Deeded T
  deeded i c = record { cell = c.table_id; index = i; seats = c.me.0.given; generation = c.me.0.generation; stage = c.me.0.stage; plants = c.me.0.plants; lives = c.me.0.lives; kept = c.me.0.kept }

  abbrev pub is_spent : Stage T → Bool
  is_spent Home = false
  is_spent Filling = false
  is_spent (Planted p) = false
  is_spent (Doomed p) = false
  is_spent (Clear p x) = false
  is_spent Spent = true

  -- a deed between its calls
  abbrev pub IsDeed : ℕ → ℕ → Bool → Sat T → Type 0
  IsDeed i g spent m = (i < CELLS) × (g ≤ last) × (m.0.role ≡ Owner) × (m.0.generation ≡ g) × (is_spent m.0.stage ≡ spent) × (m.1 ≡ [])

  -- the seat after a call that found these words at a cell
  abbrev pub finds : Seated T → ℕ → List Found → Seated T
  finds s i ws = record s { found = slice_set s.found i ws }

  -- the seat after it entered a cell
  abbrev pub inside : Seated T → ℕ → Held T → Seated T
  inside s i h = record s { held = slice_set s.held i (Some h) }

  -- the seat after it gave back with y what it held
  abbrev pub given_back : Seated T → ℕ → T → Option (Option (Held T)) → Seated T
  given_back s i y None = s
  given_back s i y (Some None) = s
  given_back s i y (Some (Some h)) = record s { held = slice_set s.held i None; took = more_at s.took i (taking h y) }

  -- the seat after it left a cell with y
  abbrev pub outside : Seated T → ℕ → T → Seated T
  outside s i y = given_back s i y (slice_get s.held i)

  -- what a seat took of a cell, and what it was told of it
  abbrev pub took_at : Seated T → ℕ → List (Taken T)
  took_at s i = slice_index_or s.took i []

  abbrev pub met_at : Seated T → ℕ → Met T
  met_at s i = slice_index_or s.met i met_none

  -- what a seat knows of a cell that is joined to the deed
  abbrev pub kept_at : ℕ → Seated T → Kept T
  kept_at i s = record { number = s.number; took = took_at s i; plants = (met_at s i).plants; lives = (met_at s i).lives }

  -- the seat after the deed of the cell told it all that it knows
  abbrev pub witnessed : Seated T → ℕ → Deeded T → Seated T
  witnessed s i d = record s { met = slice_set s.met i record { plants = d.plants; lives = d.lives } }

  -- the deed after it planted y
  abbrev pub planted_with : Deeded T → T → Deeded T
  planted_with d y = record d { stage = Planted y; plants = d.plants ++ record { generation = d.generation; value = y } ∷ [] }

  abbrev pub doomed_stage : Stage T → Stage T
  doomed_stage Home = Home
  doomed_stage Filling = Filling
  doomed_stage (Planted p) = Doomed p
  doomed_stage (Doomed p) = Doomed p
  doomed_stage (Clear p x) = Clear p x
  doomed_stage Spent = Spent

  -- the planted deed after it was doomed
  abbrev pub doomed_deed : Deeded T → Deeded T
  doomed_deed d = record d { stage = doomed_stage d.stage }

  abbrev pub life_over : Deeded T → T → T → Deeded T
  life_over d p x = record d { stage = stage_after d.generation; generation = generation_after d.generation; lives = d.lives ++ record { generation = d.generation; planted = p; given = x } ∷ [] }

  abbrev pub buried_at : Stage T → Deeded T → T → Deeded T
  buried_at Home d x = d
  buried_at Filling d x = d
  buried_at (Planted p) d x = d
  buried_at (Doomed p) d x = life_over d p x
  buried_at (Clear p y) d x = d
  buried_at Spent d x = d

  -- the doomed deed after it gave x and was buried
  abbrev pub buried_deed : Deeded T → T → Deeded T
  buried_deed d x = buried_at d.stage d x

  -- seats and deeds as they are made
  abbrev pub fresh_place : ℕ → TableId → PlacedSeat T
  fresh_place n t = record { cell = t; number = n; found = []; held = None; took = []; met = met_none }

  abbrev pub fresh_seat : List TableId → ℕ → Seated T
  fresh_seat guard n = record { number = n; guard = guard; found = replicate (length guard) []; held = replicate (length guard) None; took = replicate (length guard) []; met = replicate (length guard) met_none }

  -- so many seats, from number n on
  abbrev pub fresh_seats : List TableId → ℕ → ℕ → List (Seated T)
  fresh_seats guard n zero = []
  fresh_seats guard n (suc k) = fresh_seat guard n ∷ fresh_seats guard (suc n) k

  abbrev pub fresh_deed : ℕ → ℕ × TableId → Deeded T
  fresh_deed seats c = record { cell = c.1; index = c.0; seats = seats; generation = 0; stage = Home; plants = []; lives = []; kept = [] }

-- each with its place, counted from k
abbrev pub indexed : {X : Type 0} → ℕ → List X → List (ℕ × X)
indexed k [] = []
indexed k (x ∷ xs) = (k, x) ∷ indexed (suc k) xs

module _ {T : Type 0} where
  abbrev pub fresh_deeds : ℕ → List TableId → List (Deeded T)
  fresh_deeds seats guard = map (fresh_deed seats) (indexed 0 guard)

  abbrev pub kept_by : PlacedSeat T → Kept T
  kept_by p = record { number = p.number; took = p.took; plants = p.met.plants; lives = p.met.lives }

  -- what a seat knows of each cell
  abbrev pub kepts_of : ℕ → List (List (Taken T)) → List (Met T) → List (Kept T)
  kepts_of n [] ms = []
  kepts_of n (l ∷ ls) [] = []
  kepts_of n (l ∷ ls) (m ∷ ms) = record { number = n; took = l; plants = m.plants; lives = m.lives } ∷ kepts_of n ls ms

  abbrev pub kepts : Seated T → List (Kept T)
  kepts s = kepts_of s.number s.took s.met

  abbrev pub add_kept : Deeded T → Kept T → Deeded T
  add_kept d k = record d { kept = k ∷ d.kept }

  -- the deeds after a seat was joined to them, at each cell
  abbrev pub joined_with : List (Deeded T) → List (Kept T) → List (Deeded T)
  joined_with [] ks = []
  joined_with (d ∷ ds) [] = d ∷ ds
  joined_with (d ∷ ds) (k ∷ ks) = add_kept d k ∷ joined_with ds ks

  -- the deeds after these seats were joined to them
  abbrev pub all_joined : List (Deeded T) → List (Seated T) → List (Deeded T)
  all_joined ds [] = ds
  all_joined ds (s ∷ ss) = joined_with (all_joined ds ss) (kepts s)

  -- a seat that knows something of each cell of its guard, if only that nothing happened there
  abbrev pub IsWide : Seated T → Type 0
  IsWide s = (length s.took ≡ length s.guard) × (length s.met ≡ length s.guard)

  -- a seat of the guard that is in no cell
  abbrev pub IsOutside : List TableId → Seated T → Type 0
  IsOutside guard s = (s.guard ≡ guard) × Each (λ (h : Option (Held T)). h ≡ None) s.held

  -- the deeds' cells
  abbrev pub cells_of : List (Deeded T) → List TableId
  cells_of ds = map (λ (d : Deeded T). d.cell) ds
