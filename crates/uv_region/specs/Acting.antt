-- What an action does, and what is told of it.
use Rattle.std.specs.Prelude.{◌≡◌, ◌-◌, ℕ, List, [], ◌∷◌, ◌++◌, None, Some, replicate, if◌then◌else◌}
use Rattle.uv_region.specs.declared.region.Acted.{Acted}
use Rattle.uv_region.specs.declared.region.Acted.TheVariants.{Done, Denied, NoMemory}
use Rattle.uv_region.specs.declared.rights.Rights.{Rights}
use Rattle.uv_region.specs.Actions.{PlainAction, is_read}
use Rattle.uv_region.specs.Refusals.{first_refusal}
use Rattle.uv_region.specs.Registered.{Registered, terms_of}
use Rattle.uv_region.specs.Replay.{standing, effect}

-- the bytes that an action reads: none where it writes
abbrev pub read_by : PlainAction → List ℕ → List ℕ
read_by a bytes = if is_read a.kind then standing a bytes else []

-- how many bytes an action reads
abbrev pub length_read : PlainAction → ℕ
length_read a = if is_read a.kind then a.length else 0

-- an action as the journal holds it: a read with the bytes that it read
abbrev pub journalled : PlainAction → List ℕ → PlainAction
journalled a bytes = if is_read a.kind then record a { bytes = standing a bytes } else a

-- a region of this length that is new
abbrev pub fresh : ℕ → ℕ → ℕ → Rights → Registered
fresh object domain size rights = record {
  object = object;
  domain = domain;
  length = size;
  rights = rights;
  bytes = replicate size 0;
  actions = [];
  spare = 0;
}

-- the region after an action
abbrev pub after_action : Registered → PlainAction → Registered
after_action r a = record r { bytes = effect a r.bytes; actions = r.actions ++ journalled a r.bytes ∷ [] }

-- the region with room for one action less
abbrev pub spent : Registered → Registered
spent r = record r { spare = r.spare - 1 }

-- the action was allowed and made, and these are the bytes that it read
pub record IsDone (old : Registered) (a : PlainAction) (told : List ℕ) (new : Registered) : Type 0 where
  pub allowed : first_refusal (terms_of old) a ≡ None
  pub bytes : told ≡ read_by a old.bytes
  pub region : new ≡ after_action old a

-- what each answer says: denied as the tests say, and for want of memory only where they refuse nothing
abbrev pub ActGives : Registered → PlainAction → Acted → Registered → Type 0
ActGives old a (Done told) new = IsDone old a told.bytes new
ActGives old a (Denied why) new = (first_refusal (terms_of old) a ≡ Some why) × (new ≡ old)
ActGives old a NoMemory new = (first_refusal (terms_of old) a ≡ None) × (new ≡ old)
