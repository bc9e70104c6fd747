-- What a try to enter tells.
use Rattle.std.specs.Prelude.{◌≡◌, ℕ, List, [], ◌∷◌, Some}
use Rattle.uv_guard.specs.declared.cell.Entering.{Entering}
use Rattle.uv_guard.specs.declared.cell.Entering.TheVariants.{Entered, Dead, Taken}
use Rattle.uv_guard.specs.declared.view.Found.{Found}
use Rattle.uv_guard.specs.Lives.{IsAfter, IsOf}
use Rattle.uv_guard.specs.Words.{life_word, turn_word, IsLive, IsTurn, IsBusy}
use Rattle.uv_guard.specs.Seated.{PlacedSeat, Seated, finds, inside, took_at, met_at}

module _ {T : Type 0} (goes_on : T → T → Type 0) where
  -- at one cell
  abbrev pub PlaceEnters : ℕ → PlacedSeat T → Entering T → PlacedSeat T → Type 0
  PlaceEnters g p (Entered x) p' = (w n k : ℕ) × (p' ≡ record p { found = life_word w ∷ turn_word n ∷ []; held = Some record { number = k; generation = g; value = x } }) × IsLive g w × IsTurn k n × IsAfter goes_on g p.took x × IsOf goes_on g p.met.plants x
  PlaceEnters g p (Dead w) p' = (p' ≡ record p { found = life_word w ∷ [] }) × ¬ IsLive g w
  PlaceEnters g p (Taken w) p' = (ws : List Found) × (p' ≡ record p { found = ws }) × IsBusy g ws w

  -- The seat found the life and the turn of a live cell, and is in it, with a value that goes on from all that it left and was told of this life; or it found
  -- the life of a cell that isn't live at this generation; or it found another seat in the cell.
  abbrev pub Enters : ℕ → ℕ → Seated T → Entering T → Seated T → Type 0
  Enters i g s (Entered x) t = (w n k : ℕ) × (t ≡ inside (finds s i (life_word w ∷ turn_word n ∷ [])) i record { number = k; generation = g; value = x }) × IsLive g w × IsTurn k n × IsAfter goes_on g (took_at s i) x × IsOf goes_on g (met_at s i).plants x
  Enters i g s (Dead w) t = (t ≡ finds s i (life_word w ∷ [])) × ¬ IsLive g w
  Enters i g s (Taken w) t = (ws : List Found) × (t ≡ finds s i ws) × IsBusy g ws w
