-- What all objects hold, as contracts see it.
use Rattle.std.specs.Prelude.{ℕ, List, [], Option, None, map, replicate}
use Rattle.uv_num.specs.declared.limits.TheConstants.{ACTOR_PLACES, CELLS, FILES}
use Rattle.uv_qp.specs.declared.ledger.QueueList.{QueueList}
use Rattle.uv_region.specs.Registered.{Registered}
use Rattle.uv_region.specs.Journals.{PlainJournal, plain_journal}
use Rattle.uv_world.specs.declared.cells.Cell.{Cell}
use Rattle.uv_world.specs.declared.content.Content.{Content}
use Rattle.uv_world.specs.declared.content.Belled.{Belled}
use Rattle.uv_world.specs.declared.content.Connected.{Connected}
use Rattle.uv_world.specs.declared.content.Shared.{Shared}
use Rattle.uv_world.specs.declared.content.Addressed.{Addressed}
use Rattle.uv_world.specs.declared.content.Windowed.{Windowed}
use Rattle.uv_world.specs.Celled.{empty_cell}
use Rattle.uv_world.specs.declared.contents.Contents.{Contents}

-- by cells, what objects hold; by actors, what creates have made before their Make, and what destroys have taken out of use;
-- by files, what teardowns have taken out of use; and what was left, in the order of the releases
pub record Held : Type 0 where
  pub regions : List (Cell Registered)
  pub windows : List (Cell Windowed)
  pub rings : List (Cell Belled)
  pub channels : List (Cell (List ℕ))
  pub shared : List (Cell Shared)
  pub pairs : List (Cell Connected)
  pub addresses : List (Cell Addressed)
  pub pending : List (Option Content)
  pub retiring : List (Option Content)
  pub killed : List (Option Content)
  pub journals : List PlainJournal
  pub queues : List QueueList

-- the contents without their room
abbrev pub held_of : Contents → Held
held_of c =
    record {
      regions = c.regions;
      windows = c.windows;
      rings = c.rings;
      channels = c.channels;
      shared = c.shared;
      pairs = c.pairs;
      addresses = c.addresses;
      pending = c.pending;
      retiring = c.retiring;
      killed = c.killed;
      journals = map plain_journal c.journals.items;
      queues = c.queues.items;
    }

-- nothing is held anywhere
abbrev pub no_contents : Held
no_contents =
    record {
      regions = replicate CELLS empty_cell;
      windows = replicate CELLS empty_cell;
      rings = replicate CELLS empty_cell;
      channels = replicate CELLS empty_cell;
      shared = replicate CELLS empty_cell;
      pairs = replicate CELLS empty_cell;
      addresses = replicate CELLS empty_cell;
      pending = replicate ACTOR_PLACES None;
      retiring = replicate ACTOR_PLACES None;
      killed = replicate FILES None;
      journals = [];
      queues = [];
    }
