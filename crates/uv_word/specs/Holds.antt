-- The holds of an object, and the word that stands for them.
use Rattle.std.specs.Prelude.{ℤ, pos, negsuc, Bool, true, false, not, ◌==◌, List, [], ◌∷◌, ◌++◌, length, replicate, ◌≡◌, if◌then◌else◌}
use Rattle.std.specs.List.{list_any}

-- how a call holds an object: beside other readers, or alone
pub data Hold : Type 0 where
  Read : Hold
  Exclusive : Hold

-- the holds that a word stands for: n read holds, or at -1 one exclusive hold alone; other words stand for none
abbrev pub StandsFor : ℤ → List Hold → Type 0
StandsFor (pos n) holds = holds ≡ replicate n Read
StandsFor (negsuc n) holds = (n ≡ 0) × (holds ≡ Exclusive ∷ [])

abbrev pub is_exclusive : Hold → Bool
is_exclusive Read = false
is_exclusive Exclusive = true

-- whether one more hold may join those that stand: a reader where none is exclusive, an exclusive one where there are none
abbrev pub may_join : Hold → List Hold → Bool
may_join Read holds = not (list_any is_exclusive holds)
may_join Exclusive holds = length holds == 0

-- what a try to take a hold tells and leaves, of the holds before and behind the place that the new one gets
pub record IsTried (hold : Hold) (now : ℤ) (taken : Bool) (before behind : List Hold) : Type 0 where
  pub exactly : taken ≡ may_join hold (before ++ behind)
  pub stands : StandsFor now (if taken then before ++ hold ∷ behind else before ++ behind)

-- a try takes the hold exactly where it may join, and the word then stands for the holds with it, at whatever place
abbrev pub Tries : Hold → ℤ → ℤ → Bool → Type 0
Tries hold old now taken = (before behind : List Hold) → StandsFor old (before ++ behind) → IsTried hold now taken before behind

-- giving a hold back leaves the word of the others, whichever place it had
abbrev pub Gives : Hold → ℤ → ℤ → Type 0
Gives hold old now = (before behind : List Hold) → StandsFor old (before ++ hold ∷ behind) → StandsFor now (before ++ behind)
