-- What a plain deed tells, and what it can see of itself.
use Rattle.std.specs.Prelude.{ℕ, ◌≡◌, [], None}
use Rattle.std.specs.Option.{is_some}
use Rattle.uv_num.specs.declared.identity.Identity.{Identity}
use Rattle.uv_num.specs.declared.kind.Kind.{Kind}
use Rattle.uv_pool.specs.declared.plain.PlainDeed.{PlainDeed}
use Rattle.uv_pool.specs.Deeds.{DeedFacts, IsPlantedFor, IsBuried}

-- what the deed tells
abbrev pub plain_facts : PlainDeed → DeedFacts
plain_facts d =
    record {
      kind = d.kind;
      index = d.index;
      generation = d.generation;
      spent = d.spent;
      planted = is_some d.identity;
      identity = d.identity;
      lives = d.lives;
    }

-- the deed tells no lives, and its cell is planted for this object at this generation
abbrev pub IsSilentFor : DeedFacts → Identity → ℕ → ℕ → Type 0
IsSilentFor t identity index generation = (t.lives ≡ None) × IsPlantedFor t identity index generation []

-- the deed tells no lives, and its cell was buried at this generation
abbrev pub IsSilentAfter : DeedFacts → Kind → ℕ → ℕ → Type 0
IsSilentAfter t kind index generation = (t.lives ≡ None) × IsBuried t kind index generation []
