-- Deeds: what one tells of itself, when it is new, planted or buried, and what planting and burying make of it.
use Rattle.std.specs.Prelude.{ℕ, Bool, true, false, ◌≡◌, ◌+◌, ◌++◌, nat_le, List, [], ◌∷◌, Option, None, Some}
use Rattle.uv_num.specs.declared.identity.Identity.{Identity}
use Rattle.uv_num.specs.declared.kind.Kind.{Kind}
use Rattle.uv_num.specs.declared.limits.TheConstants.{MOST_GENERATION}
use Rattle.uv_num.specs.Kind.{kind_place}
use Rattle.uv_pool.specs.declared.deed.Life.{Life}

-- what a deed tells of itself
pub record DeedFacts : Type 0 where
  -- the kind of the objects that the cell is for, and the cell's index among those of its kind
  pub kind : Kind
  pub index : ℕ
  -- how often the cell was buried
  pub generation : ℕ
  -- the cell was buried at its last generation, and so is never used again
  pub spent : Bool
  -- the cell is planted
  pub planted : Bool
  -- the object that the cell is planted for, as it stood at the planting
  pub identity : Option Identity
  -- the lives of the cell, in order; none where the deed doesn't tell them
  pub lives : Option (List Life)

-- a deed that tells its lives tells these
abbrev pub TellsLives : Option (List Life) → List Life → Type 0
TellsLives None lives = Unit {0}
TellsLives (Some told) lives = told ≡ lives

-- and with one more after those that it tells, these
abbrev pub TellsBefore : Option (List Life) → Life → List Life → Type 0
TellsBefore None life lives = Unit {0}
TellsBefore (Some told) life lives = told ++ life ∷ [] ≡ lives

-- the life of a cell that is planted at this generation for this object
abbrev pub life_for : Identity → ℕ → Life
life_for identity generation = record { generation = generation; identity = identity }

-- a deed that was never planted, of the kind in this place and the cell with this index
pub record IsNewDeed (t : DeedFacts) (k i : ℕ) : Type 0 where
  pub kind : kind_place t.kind ≡ k
  pub index : t.index ≡ i
  pub generation : t.generation ≡ 0
  pub planted : t.planted ≡ false
  pub spent : t.spent ≡ false
  pub lives : TellsLives t.lives []

-- the deed of a cell that isn't planted, and is to be planted for this object at this generation: with that life the
-- cell's lives are these
pub record IsForNew (t : DeedFacts) (x : Identity) (i g : ℕ) (ls : List Life) : Type 0 where
  pub kind : t.kind ≡ x.kind
  pub index : t.index ≡ i
  pub generation : t.generation ≡ g
  pub spent : t.spent ≡ false
  pub planted : t.planted ≡ false
  pub lives : TellsBefore t.lives (life_for x g) ls

-- the deed of a cell that is planted for this object at this generation, and whose lives are these
pub record IsPlantedFor (t : DeedFacts) (x : Identity) (i g : ℕ) (ls : List Life) : Type 0 where
  pub kind : t.kind ≡ x.kind
  pub index : t.index ≡ i
  pub generation : t.generation ≡ g
  pub spent : t.spent ≡ false
  pub planted : t.planted ≡ true
  pub identity : t.identity ≡ Some x
  pub lives : TellsLives t.lives ls

-- a burial ends the life of this generation: the deed goes on to the next one, and after the last one it is spent
abbrev pub BehindBy : Bool → DeedFacts → ℕ → Type 0
BehindBy true t generation = (t.generation ≡ generation) × (t.spent ≡ true)
BehindBy false t generation = (t.generation ≡ generation + 1) × (t.spent ≡ false)

abbrev pub IsBehind : DeedFacts → ℕ → Type 0
IsBehind t generation = BehindBy (nat_le MOST_GENERATION generation) t generation

-- the deed of a cell that was buried at this generation, and whose lives are these
pub record IsBuried (t : DeedFacts) (k : Kind) (i g : ℕ) (ls : List Life) : Type 0 where
  pub kind : t.kind ≡ k
  pub index : t.index ≡ i
  pub planted : t.planted ≡ false
  pub behind : IsBehind t g
  pub lives : TellsLives t.lives ls

-- What becomes of a deed.

-- the lives that are told, with one more
abbrev pub with_life : Life → Option (List Life) → Option (List Life)
with_life life None = None
with_life life (Some lives) = Some (lives ++ life ∷ [])

-- its cell was planted for this object
abbrev pub after_planting : Identity → DeedFacts → DeedFacts
after_planting identity t =
    record {
      kind = t.kind;
      index = t.index;
      generation = t.generation;
      spent = t.spent;
      planted = true;
      identity = Some identity;
      lives = with_life (life_for identity t.generation) t.lives;
    }

-- what its cell held was buried
abbrev pub buried_by : Bool → DeedFacts → DeedFacts
buried_by true t =
    record { kind = t.kind; index = t.index; generation = t.generation; spent = true; planted = false; identity = None; lives = t.lives }
buried_by false t =
    record { kind = t.kind; index = t.index; generation = t.generation + 1; spent = t.spent; planted = false; identity = None; lives = t.lives }

abbrev pub after_burial : DeedFacts → DeedFacts
after_burial t = buried_by (nat_le MOST_GENERATION t.generation) t
