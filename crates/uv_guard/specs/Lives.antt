-- The lives of a cell, and all that was done in them.
use Rattle.std.specs.Prelude.{◌≡◌, ◌≢◌, ℕ, suc, ◌<◌, List, [], ◌∷◌, Option, Some, None}
use Rattle.uv_num.specs.Each.{Each}
use Rattle.uv_num.specs.Prefix.{IsPrefix}
use Rattle.uv_order.specs.declared.signed.Signed.{Signed}
use Rattle.uv_order.specs.declared.taken.Taken.{Taken}
use Rattle.uv_guard.specs.declared.life.Stage.{Stage}
use Rattle.uv_guard.specs.declared.life.Stage.TheVariants.{Home, Filling, Planted, Doomed, Clear, Spent}
use Rattle.uv_guard.specs.declared.life.Planting.{Planting}
use Rattle.uv_guard.specs.declared.life.Life.{Life}
use Rattle.uv_guard.specs.declared.view.Kept.{Kept}
use Rattle.uv_order.specs.Signed.{those}
use Rattle.uv_order.specs.Takings.{run, Chains}

module _ {T : Type 0} where
  -- LIVE and DYING, as a number
  abbrev pub flags : Stage T → ℕ
  flags Home = 0
  flags Filling = 0
  flags (Planted p) = 1
  flags (Doomed p) = 3
  flags (Clear p x) = 3
  flags Spent = 0

  -- seats may refer to the cell
  abbrev pub IsStanding : Stage T → Type 0
  IsStanding Home = ⊥
  IsStanding Filling = ⊥
  IsStanding (Planted p) = Unit {0}
  IsStanding (Doomed p) = Unit {0}
  IsStanding (Clear p x) = ⊥
  IsStanding Spent = ⊥

  -- how many lives are over, at a stage of a generation
  abbrev pub over : Stage T → ℕ → ℕ
  over Home g = g
  over Filling g = g
  over (Planted p) g = g
  over (Doomed p) g = g
  over (Clear p x) g = g
  over Spent g = suc g

  -- how many lives have begun
  abbrev pub begun : Stage T → ℕ → ℕ
  begun Home g = g
  begun Filling g = g
  begun (Planted p) g = suc g
  begun (Doomed p) g = suc g
  begun (Clear p x) g = suc g
  begun Spent g = suc g

  -- the planting of the life that isn't over
  abbrev pub standing : Stage T → ℕ → List (Planting T)
  standing Home g = []
  standing Filling g = []
  standing (Planted p) g = record { generation = g; value = p } ∷ []
  standing (Doomed p) g = record { generation = g; value = p } ∷ []
  standing (Clear p x) g = record { generation = g; value = p } ∷ []
  standing Spent g = []

  -- the planting with which a life began
  abbrev pub planting : Life T → Planting T
  planting l = record { generation = l.generation; value = l.planted }

  -- the takings lead from p to what is there
  abbrev pub LeadsTo : T → List (Taken T) → Option T → Type 0
  LeadsTo p ts None = ⊥
  LeadsTo p ts (Some x) = Chains p ts x

  -- the takings of the life that isn't over lead from what was planted to the value
  abbrev pub Runs : Stage T → List (Taken T) → Option T → Type 0
  Runs Home ts x = Unit {0}
  Runs Filling ts x = Unit {0}
  Runs (Planted p) ts x = LeadsTo p ts x
  Runs (Doomed p) ts x = LeadsTo p ts x
  Runs (Clear p y) ts x = Chains p ts y
  Runs Spent ts x = Unit {0}

  -- each taking is of one of the first n lives
  abbrev pub AreLived : ℕ → List (Signed (Taken T)) → Type 0
  AreLived n log = Each (λ (y : Signed (Taken T)). y.entry.generation < n) log

  -- a taking's number is its place
  abbrev pub AreNumbered : ℕ → List (Signed (Taken T)) → Type 0
  AreNumbered k [] = Unit {0}
  AreNumbered k (y ∷ ys) = (y.entry.number ≡ k) × AreNumbered (suc k) ys

  -- the lives from generation k on: the takings of each lead from what was planted to what was given
  abbrev pub AreEnded : ℕ → List (Signed (Taken T)) → List (Life T) → Type 0
  AreEnded k log [] = Unit {0}
  AreEnded k log (l ∷ ls) = (l.generation ≡ k) × Chains l.planted (run k log) l.given × AreEnded (suc k) log ls

  module _ (goes_on : T → T → Type 0) where
    -- what was left goes on from what was entered
    abbrev pub Grows : List (Signed (Taken T)) → Type 0
    Grows log = Each (λ (y : Signed (Taken T)). goes_on y.entry.entered y.entry.left) log

    -- the value goes on from all that these takings of that generation entered and left
    abbrev pub IsAfter : ℕ → List (Taken T) → T → Type 0
    IsAfter g took x = Each (λ (t : Taken T). t.generation ≡ g → goes_on t.entered x × goes_on t.left x) took

    -- the value goes on from what was planted at that generation, where that is known
    abbrev pub IsOf : ℕ → List (Planting T) → T → Type 0
    IsOf g plants x = Each (λ (p : Planting T). p.generation ≡ g → goes_on p.value x) plants

  -- what each of them knew fits all that was done
  abbrev pub AreKept : List (Signed (Taken T)) → List (Planting T) → List (Life T) → List (Kept T) → Type 0
  AreKept log plants lives kept = Each (λ (k : Kept T). (those k.number log ≡ k.took) × IsPrefix k.plants plants × IsPrefix k.lives lives) kept

  -- none of them has that number
  abbrev pub IsApart : ℕ → List (Kept T) → Type 0
  IsApart n kept = Each (λ (k : Kept T). k.number ≢ n) kept
