-- What entries make of contents.
use Rattle.std.specs.Prelude.{ℕ, Option, None, Some, List, [], ◌∷◌, ◌++◌, length, option_map}
use Rattle.uv_num.specs.declared.attrs.QpAttrs.{QpAttrs}
use Rattle.uv_num.specs.declared.errno.Errno.{Errno}
use Rattle.uv_num.specs.declared.kind.Kind.{Kind}
use Rattle.uv_num.specs.declared.limits.TheConstants.{NONE}
use Rattle.uv_num.specs.declared.kind.Kind.TheVariants as kind
use Rattle.uv_num.specs.declared.qp.QpState.{QpState}
use Rattle.uv_num.specs.Qp.{qp_state_of}
use Rattle.uv_machine.specs.declared.entry.Entry.{Entry}
use Rattle.uv_machine.specs.declared.entry.Entry.TheVariants.{Open, Enter, Step, Unplug, Tear, Kill, Gone, Dissociated, Closed}
use Rattle.uv_machine.specs.declared.moves.Spot.{Spot}
use Rattle.uv_machine.specs.declared.moves.Slot.{Slot}
use Rattle.uv_machine.specs.declared.moves.Slot.TheVariants.{OfCall, OfTeardown}
use Rattle.uv_machine.specs.declared.moves.Move.{Move}
use Rattle.uv_machine.specs.declared.moves.Move.TheVariants.{Stays, Plants, Drops, Takes, Buries, Modifies, Binds, Unbinds}
use Rattle.uv_machine.specs.declared.state.State.{State}
use Rattle.uv_machine.specs.Effects.{refusal_in}
use Rattle.uv_machine.specs.Moves.{entry_move}
use Rattle.uv_qp.specs.declared.ledger.QueueList.{QueueList}
use Rattle.uv_qp.specs.declared.ledger.Which.TheVariants as which
use Rattle.uv_qp.specs.Ledgers.{posted_of}
use Rattle.uv_qp.specs.Makings.{pair_named}
use Rattle.uv_qp.specs.Moves.{pair_moved_by, verdict_of}
use Rattle.uv_qp.specs.Pairs.{sends_posted, receives_posted}
use Rattle.uv_region.specs.Registered.{Registered}
use Rattle.uv_region.specs.Journals.{PlainJournal, journal_of}
use Rattle.uv_world.specs.declared.content.Content.{Content}
use Rattle.uv_world.specs.declared.content.Content.TheVariants as content
use Rattle.uv_world.specs.declared.content.Belled.{Belled}
use Rattle.uv_world.specs.declared.content.Bound.{Bound}
use Rattle.uv_world.specs.declared.content.Connected.{Connected}
use Rattle.uv_world.specs.declared.content.Shared.{Shared}
use Rattle.uv_world.specs.declared.content.Addressed.{Addressed}
use Rattle.uv_world.specs.declared.content.Windowed.{Windowed}
use Rattle.uv_world.specs.Celled.{value_of_cell, cells_planted, cells_emptied, cells_changed, value_of_slot, slots_set}
use Rattle.uv_world.specs.Holdings.{Held}
use Rattle.uv_world.specs.Making.{content_for}

-- Bringing: an Enter that isn't refused brings what its create has made.

abbrev pub held_with_pending : Held → ℕ → Option Content → Held
held_with_pending h c now = record h { pending = slots_set h.pending c now }

abbrev pub held_unless : Held → Option Errno → Held → Held
held_unless h None fine = fine
held_unless h (Some e) fine = h

abbrev pub held_brought : Held → Entry → Held
held_brought h (Open c f d a) = h
held_brought h (Enter c f request a) = held_unless h (refusal_in a) (held_with_pending h c (content_for request))
held_brought h (Step c w o found a) = h
held_brought h (Unplug d) = h
held_brought h (Tear f by) = h
held_brought h (Kill o) = h
held_brought h (Gone o kept) = h
held_brought h (Dissociated f) = h
held_brought h (Closed f) = h

-- Planting: contents get their names and links.

abbrev pub region_named : Spot → Registered → Registered
region_named spot r = record r { object = spot.object; domain = spot.domain }

abbrev pub window_named : Spot → Windowed → Windowed
window_named spot w = record w { object = spot.object; domain = spot.domain }

abbrev pub ring_linked : Spot → Belled → Belled
ring_linked spot q = record q { channel = spot.links.channel }

abbrev pub shared_named : Spot → Shared → Shared
shared_named spot q = record q { object = spot.object; domain = spot.domain }

abbrev pub pair_linked : Spot → Connected → Connected
pair_linked spot p =
    record {
      qp = pair_named p.qp (record { object = spot.object; domain = spot.domain; index = spot.index; device = spot.device });
      send = spot.links.send;
      receive = spot.links.receive;
      shared = spot.links.shared;
    }

abbrev pub address_named : Spot → Addressed → Addressed
address_named spot a = record a { object = spot.object; domain = spot.domain }

abbrev pub held_planted : Held → Spot → Option Content → Held
held_planted h spot None = h
held_planted h spot (Some (content.Channel events)) = record h { channels = cells_planted h.channels spot.index spot.generation events }
held_planted h spot (Some (content.Cq q)) = record h { rings = cells_planted h.rings spot.index spot.generation (ring_linked spot q) }
held_planted h spot (Some (content.Qp p)) = record h { pairs = cells_planted h.pairs spot.index spot.generation (pair_linked spot p) }
held_planted h spot (Some (content.Srq q)) = record h { shared = cells_planted h.shared spot.index spot.generation (shared_named spot q) }
held_planted h spot (Some (content.Ah a)) = record h { addresses = cells_planted h.addresses spot.index spot.generation (address_named spot a) }
held_planted h spot (Some (content.Mr r)) = record h { regions = cells_planted h.regions spot.index spot.generation (region_named spot r) }
held_planted h spot (Some (content.Mw w)) = record h { windows = cells_planted h.windows spot.index spot.generation (window_named spot w) }

-- Taking out.

-- what stands in the cell of a kind
abbrev pub held_at : Held → ℕ → Kind → Option Content
held_at h at kind.Pd = None
held_at h at kind.Channel = option_map content.Channel (value_of_cell h.channels at)
held_at h at kind.Cq = option_map content.Cq (value_of_cell h.rings at)
held_at h at kind.Qp = option_map content.Qp (value_of_cell h.pairs at)
held_at h at kind.Srq = option_map content.Srq (value_of_cell h.shared at)
held_at h at kind.Ah = option_map content.Ah (value_of_cell h.addresses at)
held_at h at kind.Mr = option_map content.Mr (value_of_cell h.regions at)
held_at h at kind.Mw = option_map content.Mw (value_of_cell h.windows at)

abbrev pub held_without : Held → ℕ → Kind → Held
held_without h at kind.Pd = h
held_without h at kind.Channel = record h { channels = cells_emptied h.channels at }
held_without h at kind.Cq = record h { rings = cells_emptied h.rings at }
held_without h at kind.Qp = record h { pairs = cells_emptied h.pairs at }
held_without h at kind.Srq = record h { shared = cells_emptied h.shared at }
held_without h at kind.Ah = record h { addresses = cells_emptied h.addresses at }
held_without h at kind.Mr = record h { regions = cells_emptied h.regions at }
held_without h at kind.Mw = record h { windows = cells_emptied h.windows at }

abbrev pub held_in_slot : Held → Slot → Option Content
held_in_slot h (OfCall c) = value_of_slot h.retiring c
held_in_slot h (OfTeardown f) = value_of_slot h.killed f

abbrev pub held_with_slot : Held → Slot → Option Content → Held
held_with_slot h (OfCall c) now = record h { retiring = slots_set h.retiring c now }
held_with_slot h (OfTeardown f) now = record h { killed = slots_set h.killed f now }

-- Closing: a region leaves its journal, a pair the lists of both its queues, a shared receive queue its own.

abbrev pub journals_left : Option Content → List PlainJournal
journals_left None = []
journals_left (Some (content.Channel events)) = []
journals_left (Some (content.Cq q)) = []
journals_left (Some (content.Qp p)) = []
journals_left (Some (content.Srq q)) = []
journals_left (Some (content.Ah a)) = []
journals_left (Some (content.Mr r)) = journal_of r ∷ []
journals_left (Some (content.Mw w)) = []

abbrev pub pair_lists : Connected → List QueueList
pair_lists p =
    record { object = p.qp.names.object; which = which.Send; posted = sends_posted p.qp; completed = p.qp.sent }
    ∷ record { object = p.qp.names.object; which = which.Receive; posted = receives_posted p.qp; completed = p.qp.received }
    ∷ []

abbrev pub shared_list : Shared → QueueList
shared_list q = record { object = q.object; which = which.Shared; posted = posted_of q.posted.completed q.posted.owed; completed = q.posted.completed }

abbrev pub queues_left : Option Content → List QueueList
queues_left None = []
queues_left (Some (content.Channel events)) = []
queues_left (Some (content.Cq q)) = []
queues_left (Some (content.Qp p)) = pair_lists p
queues_left (Some (content.Srq q)) = shared_list q ∷ []
queues_left (Some (content.Ah a)) = []
queues_left (Some (content.Mr r)) = []
queues_left (Some (content.Mw w)) = []

abbrev pub held_closed : Held → Option Content → Held
held_closed h left = record h { journals = h.journals ++ journals_left left; queues = h.queues ++ queues_left left }

-- Acting.

abbrev pub pair_modified : Option QpState → QpAttrs → Connected → Connected
pair_modified None attrs p = p
pair_modified (Some to) attrs p = record p { qp = pair_moved_by p.qp (verdict_of p.qp to attrs) attrs }

abbrev pub window_bound : Option Bound → Windowed → Windowed
window_bound bound w = record w { bound = bound }

-- the id of the region that a cell holds
abbrev pub region_id : Option Registered → ℕ
region_id None = NONE
region_id (Some r) = r.object

-- a range of the region in a cell, which a window names by its id too
abbrev pub bound_over : ℕ → ℕ → ℕ → ℕ → ℕ → Bound
bound_over object region offset length access = record { object = object; region = region; offset = offset; length = length; access = access }

-- An entry.

abbrev pub held_moved : Held → Move → Held
held_moved h Stays = h
held_moved h (Plants c spot) = held_planted (held_with_pending h c None) spot (value_of_slot h.pending c)
held_moved h (Drops c) = held_with_pending h c None
held_moved h (Takes slot k at) = held_with_slot (held_without h at k) slot (held_at h at k)
held_moved h (Buries slot) = held_closed (held_with_slot h slot None) (held_in_slot h slot)
held_moved h (Modifies at to attrs) = record h { pairs = cells_changed h.pairs at (pair_modified (qp_state_of to) attrs) }
held_moved h (Binds window region offset length access) = record h { windows = cells_changed h.windows window (window_bound (Some (bound_over (region_id (value_of_cell h.regions region)) region offset length access))) }
held_moved h (Unbinds window) = record h { windows = cells_changed h.windows window (window_bound None) }

-- what all objects hold after an entry that came in this state
abbrev pub held_after : Held → State → Entry → Held
held_after h m e = held_moved (held_brought h e) (entry_move m e)

-- how many actions stand in a content that is closed
abbrev pub actions_in : Option Content → ℕ
actions_in None = 0
actions_in (Some (content.Channel events)) = 0
actions_in (Some (content.Cq q)) = 0
actions_in (Some (content.Qp p)) = 0
actions_in (Some (content.Srq q)) = 0
actions_in (Some (content.Ah a)) = 0
actions_in (Some (content.Mr r)) = length r.actions
actions_in (Some (content.Mw w)) = 0
