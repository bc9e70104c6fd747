-- Laws, put together by what they are about.
use Rattle.std.specs.Prelude.{◌≡◌, ◌≢◌, ℕ, suc, ◌+◌, ◌<◌, ◌≤◌, Option, List, [], ◌∷◌, ◌++◌}
use Rattle.uv_num.specs.Prefix.{IsPrefix}
use Rattle.uv_order.specs.declared.signed.Signed.{Signed}
use Rattle.uv_order.specs.declared.taken.Taken.{Taken}
use Rattle.uv_order.specs.Signed.{nobody, entries, sign, those, Silent, AreBelow}
use Rattle.uv_order.specs.Seen.{longer, Quiet}
use Rattle.uv_order.specs.Names.{AreNamed, NameOnly, NameNobody, picks}
use Rattle.uv_order.specs.Places.{where_is}
use Rattle.uv_order.specs.Takings.{run, Chains, AreYoung}

-- who signed what
pub record SigningLaws (E : Type 0) : Type 0 where
  pub entries_two : (xs ys : List (Signed E)) → entries (xs ++ ys) ≡ entries xs ++ entries ys
  pub entries_sign : (n : ℕ) (xs : List E) → entries (sign n xs) ≡ xs
  pub those_two : (n : ℕ) (xs ys : List (Signed E)) → those n (xs ++ ys) ≡ those n xs ++ those n ys
  pub those_sign : (n : ℕ) (xs : List E) → those n (sign n xs) ≡ xs
  pub silent_two : (n : ℕ) (xs ys : List (Signed E)) → Silent n xs → Silent n ys → Silent n (xs ++ ys)
  pub silent_front : (n : ℕ) (xs ys : List (Signed E)) → Silent n (xs ++ ys) → Silent n xs
  pub silent_back : (n : ℕ) (xs ys : List (Signed E)) → Silent n (xs ++ ys) → Silent n ys
  pub silent_other : (n by : ℕ) → by ≢ n → (xs : List E) → Silent n (sign by xs)
  pub silent_below : (n : ℕ) → n < nobody → (log : List (Signed E)) → AreBelow n log → Silent n log
  pub below_two : (n : ℕ) (xs ys : List (Signed E)) → AreBelow n xs → AreBelow n ys → AreBelow n (xs ++ ys)
  pub below_sign : (n by : ℕ) → by < n → (xs : List E) → AreBelow n (sign by xs)
  pub below_nobody : (n : ℕ) (xs : List E) → AreBelow n (sign nobody xs)
  pub below_more : (n : ℕ) (xs : List (Signed E)) → AreBelow n xs → AreBelow (suc n) xs

-- what a seat has seen
pub record SeeingLaws (E : Type 0) : Type 0 where
  pub quiet_whole : (n : ℕ) (log : List (Signed E)) → Quiet n log log
  pub quiet_grows : (n : ℕ) (log seen more : List (Signed E)) → Quiet n log seen → Silent n more → Quiet n (log ++ more) seen
  pub quiet_longer : (n : ℕ) (log xs ys : List (Signed E)) → Quiet n log xs → IsPrefix ys log → Quiet n log (longer xs ys) × Quiet n (longer xs ys) xs × IsPrefix ys (longer xs ys) × IsPrefix (longer xs ys) log
  pub places_stay : (n k : ℕ) (log seen : List (Signed E)) → Quiet n log seen → where_is n k log ≡ where_is n k seen

-- whom entries name
pub record NamingLaws (E : Type 0) : Type 0 where
  pub named_two : (names : E → Option ℕ) (xs ys : List (Signed E)) → AreNamed names xs → AreNamed names ys → AreNamed names (xs ++ ys)
  pub named_sign : (names : E → Option ℕ) (n : ℕ) (xs : List E) → NameOnly names n xs → AreNamed names (sign n xs)
  pub named_nobody : (names : E → Option ℕ) (n : ℕ) (xs : List E) → NameNobody names xs → AreNamed names (sign n xs)
  pub named_starts : (names : E → Option ℕ) (log seen : List (Signed E)) → IsPrefix seen log → AreNamed names log → AreNamed names seen
  -- the entries that name a seat are among those that it saw
  pub picks_stay : (names : E → Option ℕ) (n : ℕ) (log seen : List (Signed E)) → AreNamed names log → Quiet n log seen → picks names n (entries log) ≡ picks names n (entries seen)
  -- what a turn adds to the entries that name its seat is among what the turn made
  pub picks_turn : (names : E → Option ℕ) (n : ℕ) (seen between after : List (Signed E)) (made : List E) → AreNamed names after → Silent n between → after ≡ (seen ++ between) ++ sign n made
      → picks names n (entries after) ≡ picks names n (entries seen) ++ picks names n made

pub record LogLaws (E : Type 0) : Type 0 where
  pub signing : SigningLaws E
  pub seeing : SeeingLaws E
  pub naming : NamingLaws E

-- takings of a cell
pub record TakingLaws (T : Type 0) : Type 0 where
  pub run_same : (g by : ℕ) (t : Taken T) (log : List (Signed (Taken T))) → t.generation ≡ g → run g (log ++ record { by = by; entry = t } ∷ []) ≡ run g log ++ t ∷ []
  pub run_other : (g by : ℕ) (t : Taken T) (log : List (Signed (Taken T))) → t.generation ≢ g → run g (log ++ record { by = by; entry = t } ∷ []) ≡ run g log
  pub chains_on : (p : T) (ts : List (Taken T)) (o : T) (t : Taken T) → Chains p ts o → t.entered ≡ o → Chains p (ts ++ t ∷ []) t.left
  pub young_on : (g by : ℕ) (t : Taken T) (log : List (Signed (Taken T))) → AreYoung g log → t.generation ≤ g → AreYoung g (log ++ record { by = by; entry = t } ∷ [])
  pub young_later : (g : ℕ) (log : List (Signed (Taken T))) → AreYoung g log → AreYoung (g + 1) log
  pub none_yet : (g : ℕ) (log : List (Signed (Taken T))) → AreYoung g log → run (g + 1) log ≡ []
