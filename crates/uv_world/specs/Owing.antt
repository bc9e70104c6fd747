-- The room that what is held wants when it is closed, and what is true of contents at all times.
use Rattle.std.specs.Prelude.{ℕ, ◌≡◌, ◌≤◌, ◌+◌, ◌*◌, [], List, Option, None, Some, length, map, sum_by, true}
use Rattle.uv_num.specs.declared.limits.TheConstants.{CELLS}
use Rattle.uv_num.specs.declared.qp.QpState.TheVariants.{Reset}
use Rattle.uv_num.specs.Each.{Each}
use Rattle.uv_num.specs.Ranges.{attrs_in_range}
use Rattle.uv_machine.specs.declared.moves.Move.{Move}
use Rattle.uv_machine.specs.declared.moves.Move.TheVariants.{Stays, Plants, Drops, Takes, Buries, Modifies, Binds, Unbinds}
use Rattle.uv_qp.specs.declared.ledger.QueueList.{QueueList}
use Rattle.uv_qp.specs.Ledgers.{IsOrdered}
use Rattle.uv_qp.specs.Pairs.{Paired, sends_posted, receives_posted}
use Rattle.uv_region.specs.Journals.{plain_journal, IsJournal}
use Rattle.uv_world.specs.declared.cells.Cell.{Cell}
use Rattle.uv_world.specs.declared.content.Content.{Content}
use Rattle.uv_world.specs.declared.content.Content.TheVariants as content
use Rattle.uv_world.specs.declared.contents.Contents.{Contents}

-- the journals that a content becomes
abbrev pub owes_journals : Option Content → ℕ
owes_journals None = 0
owes_journals (Some (content.Channel events)) = 0
owes_journals (Some (content.Cq q)) = 0
owes_journals (Some (content.Qp p)) = 0
owes_journals (Some (content.Srq q)) = 0
owes_journals (Some (content.Ah a)) = 0
owes_journals (Some (content.Mr r)) = 1
owes_journals (Some (content.Mw w)) = 0

-- the lists of queues that it becomes
abbrev pub owes_lists : Option Content → ℕ
owes_lists None = 0
owes_lists (Some (content.Channel events)) = 0
owes_lists (Some (content.Cq q)) = 0
owes_lists (Some (content.Qp p)) = 2
owes_lists (Some (content.Srq q)) = 1
owes_lists (Some (content.Ah a)) = 0
owes_lists (Some (content.Mr r)) = 0
owes_lists (Some (content.Mw w)) = 0

abbrev pub counts_value : {T : Type 0} → Option T → ℕ
counts_value None = 0
counts_value (Some value) = 1

abbrev pub counts_cell : {T : Type 0} → Cell T → ℕ
counts_cell cell = counts_value cell.value

-- how many cells hold something
abbrev pub full_cells : {T : Type 0} → List (Cell T) → ℕ
full_cells cells = sum_by counts_cell cells

abbrev pub journals_owed : Contents → ℕ
journals_owed c = full_cells c.regions + (sum_by owes_journals c.pending + (sum_by owes_journals c.retiring + sum_by owes_journals c.killed))

abbrev pub lists_owed : Contents → ℕ
lists_owed c = 2 * full_cells c.pairs + (full_cells c.shared + (sum_by owes_lists c.pending + (sum_by owes_lists c.retiring + sum_by owes_lists c.killed)))

-- a pair to which nothing was posted
pub record IsUnusedPair (p : Paired) : Type 0 where
  pub reset : p.state ≡ Reset
  pub sends : sends_posted p ≡ []
  pub receives : receives_posted p ≡ []

-- nothing was done to it, so it may be named
abbrev pub IsUnused : Option Content → Type 0
IsUnused None = Unit {0}
IsUnused (Some (content.Channel events)) = Unit {0}
IsUnused (Some (content.Cq q)) = Unit {0}
IsUnused (Some (content.Qp p)) = IsUnusedPair p.qp
IsUnused (Some (content.Srq q)) = Unit {0}
IsUnused (Some (content.Ah a)) = Unit {0}
IsUnused (Some (content.Mr r)) = r.actions ≡ []
IsUnused (Some (content.Mw w)) = Unit {0}

-- a list of a queue is in order
abbrev pub IsOrderedList : QueueList → Type 0
IsOrderedList list = IsOrdered list.posted list.completed

-- there is room for what all contents become when they are closed, what waits to be planted is unused, and what was left
-- is lawful
pub record IsHoused (c : Contents) : Type 0 where
  pub journal_room : journals_owed c ≤ c.journals.room
  pub list_room : lists_owed c ≤ c.queues.room
  pub pairs : length c.pairs ≡ CELLS
  pub unused : Each IsUnused c.pending
  pub journals : Each IsJournal (map plain_journal c.journals.items)
  pub queues : Each IsOrderedList c.queues.items

-- a modify's attributes are in their ranges
abbrev pub MoveFits : Move → Type 0
MoveFits Stays = Unit {0}
MoveFits (Plants c spot) = Unit {0}
MoveFits (Drops c) = Unit {0}
MoveFits (Takes slot k at) = Unit {0}
MoveFits (Buries slot) = Unit {0}
MoveFits (Modifies at to attrs) = attrs_in_range attrs ≡ true
MoveFits (Binds window region offset length access) = Unit {0}
MoveFits (Unbinds window) = Unit {0}
