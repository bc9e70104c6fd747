-- Journals: what a region was and all that was done to it.
use Rattle.std.specs.Prelude.{◌≡◌, ◌≤◌, ◌+◌, ℕ, List, [], ◌∷◌, length, map, replicate}
use Rattle.uv_num.specs.declared.limits.TheConstants.{REGION_BYTES}
use Rattle.uv_num.specs.Each.{Each}
use Rattle.uv_num.specs.Prefix.{IsPrefix}
use Rattle.uv_region.specs.declared.journal.Journal.{Journal}
use Rattle.uv_region.specs.declared.rights.Rights.{Rights}
use Rattle.uv_region.specs.Actions.{PlainAction, plain, IsWhole}
use Rattle.uv_region.specs.Refusals.{Terms, IsAllowed}
use Rattle.uv_region.specs.Registered.{Registered}
use Rattle.uv_region.specs.Replay.{replay_of, ReadsHold}

-- a journal, its actions without the room of their bytes
pub record PlainJournal : Type 0 where
  pub object : ℕ
  pub domain : ℕ
  pub length : ℕ
  pub rights : Rights
  pub actions : List PlainAction

-- a journal seen so
abbrev pub plain_journal : Journal → PlainJournal
plain_journal j = record {
  object = j.object;
  domain = j.domain;
  length = j.length;
  rights = j.rights;
  actions = map plain j.actions;
}

-- what a region has been through
abbrev pub journal_of : Registered → PlainJournal
journal_of r = record {
  object = r.object;
  domain = r.domain;
  length = r.length;
  rights = r.rights;
  actions = r.actions;
}

-- what the tests of the action at a place looked at: the terms of the region at that moment, which stay as they are
abbrev pub terms_at : PlainJournal → ℕ → Terms
terms_at j place = record { length = j.length; domain = j.domain; rights = j.rights }

-- each action was allowed by the terms at its place, the first of them standing at this one
abbrev pub AllowedFrom : (ℕ → Terms) → ℕ → List PlainAction → Type 0
AllowedFrom terms place [] = Unit {0}
AllowedFrom terms place (a ∷ rest) = IsAllowed (terms place) a × AllowedFrom terms (place + 1) rest

-- each action was allowed and whole, and each read holds the bytes of its turn
pub record IsJournal (j : PlainJournal) : Type 0 where
  pub allowed : AllowedFrom (terms_at j) 0 j.actions
  pub whole : Each IsWhole j.actions
  pub reads : ReadsHold (replicate j.length 0) j.actions

-- it is all that the region has been through, and the region's bytes are its replay
pub record IsJournalOf (r : Registered) (j : PlainJournal) : Type 0 where
  pub same : j ≡ journal_of r
  pub lawful : IsJournal j
  pub replays : r.bytes ≡ replay_of j.length j.actions

-- the second journal is of the same region and goes on where the first one ends
pub record GoesOn (before after : PlainJournal) : Type 0 where
  pub object : after.object ≡ before.object
  pub domain : after.domain ≡ before.domain
  pub length : after.length ≡ before.length
  pub rights : after.rights ≡ before.rights
  pub actions : IsPrefix before.actions after.actions

-- what is true of every region
pub record IsKept (r : Registered) : Type 0 where
  pub journal : IsJournalOf r (journal_of r)
  pub bytes : length r.bytes ≡ r.length
  pub most : r.length ≤ REGION_BYTES
