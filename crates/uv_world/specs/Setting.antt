-- What is taken of each cell for an action, what of it is set aside, and how both go back into the cell.
use Rattle.std.specs.Prelude.{ℕ, ◌≡◌, ◌==◌, ◌||◌, if◌then◌else◌, Option, None, Some, List, [], option_map}
use Rattle.uv_queue.specs.Queued.{Queued}
use Rattle.uv_wr.specs.Works.{Receiving}
use Rattle.uv_qp.specs.Pairs.{Paired}
use Rattle.uv_engine.specs.declared.lent.CqLent.{CqLent}
use Rattle.uv_engine.specs.declared.lent.Lent.{Lent}
use Rattle.uv_engine.specs.Ringing.{is_shared}
use Rattle.uv_world.specs.declared.cells.Cell.{Cell}
use Rattle.uv_world.specs.declared.content.Belled.{Belled}
use Rattle.uv_world.specs.declared.content.Connected.{Connected}
use Rattle.uv_world.specs.declared.content.Shared.{Shared}
use Rattle.uv_world.specs.declared.contents.Contents.{Contents}
use Rattle.uv_world.specs.declared.taking.PairLinks.{PairLinks}
use Rattle.uv_world.specs.declared.taking.PairPlaces.{PairPlaces}
use Rattle.uv_world.specs.declared.taking.QueueLeft.{QueueLeft}
use Rattle.uv_world.specs.declared.taking.QueuePlace.{QueuePlace}
use Rattle.uv_world.specs.declared.taking.SetAside.{SetAside}
use Rattle.uv_world.specs.Celled.{cells_emptied, cells_emptied_if, cells_filled, cells_filled_if, value_if, value_of_cell}
use Rattle.uv_world.specs.Holdings.{Held}
use Rattle.uv_world.specs.Lending.{return_all}
use Rattle.uv_world.specs.Taking.{ReadyPair, lent_to, places_of_pair, queue_lent, ready_at}

-- the cells of a queue pair with these completion queues
abbrev pub pair_places : ℕ → Connected → QueuePlace → QueuePlace → PairPlaces
pair_places at p send receive = record {
  pair = at;
  send = send.cell;
  receive = if send.cell == receive.cell then None else Some receive.cell;
  send_channel = send.channel;
  receive_channel = if send.cell == receive.cell then None else (if is_shared send.channel receive.channel then None else receive.channel);
  shared = if p.qp.srq then p.shared else None;
}

-- a queue pair with what it is linked with
abbrev pub connected_back : Paired → PairLinks → Connected
connected_back qp links = record { qp = qp; send = links.send; receive = links.receive; shared = links.shared }

abbrev pub links_of : Connected → PairLinks
links_of p = record { send = p.send; receive = p.receive; shared = p.shared }

-- the completion queue in a cell that is named
abbrev pub queue_if : List (Cell Belled) → Option ℕ → Option CqLent
queue_if rings None = None
queue_if rings (Some at) = option_map (queue_lent at) (value_of_cell rings at)

abbrev pub belled_back : CqLent → Belled
belled_back cq = record { ring = cq.ring; channel = cq.channel }

-- a shared receive queue without its works, and with them
abbrev pub queue_left : Shared → QueueLeft
queue_left q = record { object = q.object; domain = q.domain; posted = q.posted }

abbrev pub shared_joined : Queued Receiving → QueueLeft → Shared
shared_joined works left = record { object = left.object; domain = left.domain; works = works; posted = left.posted }

abbrev pub shared_back : Option (Queued Receiving) → Option QueueLeft → Option Shared
shared_back None left = None
shared_back (Some works) None = None
shared_back (Some works) (Some left) = Some (shared_joined works left)

-- what isn't lent of a queue pair that is ready
abbrev pub aside_of : Held → ReadyPair → SetAside
aside_of h r = record { links = links_of r.pair; queue = option_map queue_left (value_if h.shared (places_of_pair r).shared) }

-- what was taken at these places is what a queue pair that is ready there needs
abbrev pub AreTaken : Held → PairPlaces → Lent → SetAside → Type 0
AreTaken h x lent aside = (device : Option ℕ) (r : ReadyPair) → ready_at h x.pair device ≡ Some r → x ≡ places_of_pair r → (lent ≡ lent_to h r []) × (aside ≡ aside_of h r)

-- the cells are emptied
abbrev pub contents_without : Contents → PairPlaces → Contents
contents_without c x = record c {
  pairs = cells_emptied c.pairs x.pair;
  rings = cells_emptied_if (cells_emptied c.rings x.send) x.receive;
  channels = cells_emptied_if (cells_emptied_if c.channels x.send_channel) x.receive_channel;
  shared = cells_emptied_if c.shared x.shared;
}

-- and filled
abbrev pub contents_given : Contents → PairPlaces → Lent → SetAside → List ℕ → Contents
contents_given c x lent aside keys = record c {
  pairs = cells_filled c.pairs x.pair (connected_back lent.qp aside.links);
  rings = cells_filled_if (cells_filled c.rings x.send (belled_back lent.send)) x.receive (option_map belled_back lent.receive);
  channels = cells_filled_if (cells_filled_if c.channels x.send_channel lent.send_channel) x.receive_channel lent.receive_channel;
  shared = cells_filled_if c.shared x.shared (shared_back lent.srq aside.queue);
  regions = (return_all c.windows (record { regions = c.regions; lent = lent.regions }) keys).regions;
}
