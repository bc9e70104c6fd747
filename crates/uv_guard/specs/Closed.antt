-- What all seats together did with a cell, as the end of a guard tells it.
use Rattle.std.specs.Prelude.{◌≡◌, ◌⊎◌, ℕ, List, length, map, slice_get, Some}
use Rattle.uv_order.specs.declared.signed.Signed.{Signed}
use Rattle.uv_order.specs.declared.taken.Taken.{Taken}
use Rattle.uv_order.specs.Signed.{AreOfSeats}
use Rattle.uv_guard.specs.declared.life.Stage.{Stage}
use Rattle.uv_guard.specs.declared.life.Stage.TheVariants.{Home, Spent}
use Rattle.uv_guard.specs.declared.life.Planting.{Planting}
use Rattle.uv_guard.specs.declared.life.Life.{Life}
use Rattle.uv_guard.specs.declared.view.Kept.{Kept}
use Rattle.uv_guard.specs.Seated.{Seated, Deeded, kept_at}
use Rattle.uv_guard.specs.Lives.{planting, AreKept, AreNumbered, AreLived, Grows, AreEnded}

module _ {T : Type 0} where
  -- nothing is planted
  abbrev pub IsAtRest : Stage T → Type 0
  IsAtRest stage = (stage ≡ Home) ⊎ (stage ≡ Spent)

  -- One order of all takings of a cell. Each seat's own are what the seat knows that it took. Each is of one of the lives, which have the
  -- generations 0, 1, 2 and so on, and the takings of a life lead from what was planted to what was given.
  pub record Balanced (goes_on : T → T → Type 0) (given : ℕ) (plants : List (Planting T)) (lives : List (Life T)) (kept : List (Kept T)) : Type 0 where
    pub log : List (Signed (Taken T))
    pub own : AreKept log plants lives kept
    pub authors : AreOfSeats given log
    pub numbered : AreNumbered 0 log
    pub lived : AreLived (length lives) log
    pub grows : Grows goes_on log
    pub ended : AreEnded 0 log lives
    pub planted : plants ≡ map planting lives

module _ {T : Type 0} (goes_on : T → T → Type 0) where
  -- what the seats knew that were joined to a deed fits all that was done with its cell
  abbrev pub IsBalanced : Deeded T → Type 0
  IsBalanced d = Balanced goes_on d.seats d.plants d.lives d.kept

  -- what all the seats did with each cell: the deeds stand in the order of the cells
  abbrev pub AreBalanced : List (Seated T) → List (Deeded T) → Type 0
  AreBalanced seats deeds = (i : ℕ) (d : Deeded T) → slice_get deeds i ≡ Some d → Balanced goes_on d.seats d.plants d.lives (map (kept_at i) seats)
