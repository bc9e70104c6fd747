-- What the words that a seat found in a cell say.
use Rattle.std.specs.Prelude.{◌≡◌, ◌≢◌, ◌⊎◌, ℕ, ◌+◌, ◌*◌, ◌/◌, ◌%◌, List, [], ◌∷◌}
use Rattle.uv_guard.specs.declared.view.Found.{Found}

abbrev pub found_at : ℕ → ℕ → Found
found_at i w = record { word = i; value = w }

-- the life word, and the turn word
abbrev pub life_word : ℕ → Found
life_word w = found_at 0 w

abbrev pub turn_word : ℕ → Found
turn_word w = found_at 1 w

-- the life word of a cell that lives at this generation and isn't doomed
abbrev pub IsLive : ℕ → ℕ → Type 0
IsLive g w = w / 4294967296 ≡ 4 * g + 1

-- the turn word before the taking of this number
abbrev pub IsTurn : ℕ → ℕ → Type 0
IsTurn k w = w ≡ (2 * k) % 18446744073709551616

-- A try found another seat in the cell: after the life word of a live cell it found the turn w, which is odd; or it found an even turn, and then w in its place.
abbrev pub IsBusy : ℕ → List Found → ℕ → Type 0
IsBusy g found w = (life : ℕ) × IsLive g life × (((found ≡ life_word life ∷ turn_word w ∷ []) × (w % 2 ≡ 1)) ⊎ ((n : ℕ) × (found ≡ life_word life ∷ turn_word n ∷ turn_word w ∷ []) × (n % 2 ≡ 0) × (w ≢ n)))
