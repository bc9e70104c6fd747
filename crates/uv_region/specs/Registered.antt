-- A region as its callers see it.
use Rattle.std.specs.Prelude.{ℕ, List, map}
use Rattle.uv_num.specs.Stocked.{Stocked}
use Rattle.uv_region.specs.declared.action.Action.{Action}
use Rattle.uv_region.specs.declared.rights.Rights.{Rights}
use Rattle.uv_region.specs.Actions.{PlainAction, plain}
use Rattle.uv_region.specs.Refusals.{Terms}

-- what it is, its bytes, what was done to them, and how many more actions are taken without memory
pub record Registered : Type 0 where
  pub object : ℕ
  pub domain : ℕ
  pub length : ℕ
  pub rights : Rights
  pub bytes : List ℕ
  pub actions : List PlainAction
  pub spare : ℕ

-- what the tests look at
abbrev pub terms_of : Registered → Terms
terms_of r = record { length = r.length; domain = r.domain; rights = r.rights }

-- a region of these parts
abbrev pub registered : ℕ → ℕ → ℕ → Rights → List ℕ → Stocked Action → Registered
registered object domain size rights bytes actions = record {
  object = object;
  domain = domain;
  length = size;
  rights = rights;
  bytes = bytes;
  actions = map plain actions.items;
  spare = actions.room;
}

-- a region without its room, which is all that counts of it
pub record KnownRegion : Type 0 where
  pub object : ℕ
  pub domain : ℕ
  pub length : ℕ
  pub rights : Rights
  pub bytes : List ℕ
  pub actions : List PlainAction

-- a region seen so
abbrev pub known_of : Registered → KnownRegion
known_of r = record {
  object = r.object;
  domain = r.domain;
  length = r.length;
  rights = r.rights;
  bytes = r.bytes;
  actions = r.actions;
}
