-- What a packet action of a queue pair is made on, and where that lies: the pair, its completion queues with their channels, its
-- shared receive queue, and the regions of the keys that the action wants.
use Rattle.std.specs.Prelude.{ℕ, ◌≡◌, ◌-◌, ◌==◌, nat_lt, Bool, true, false, is_some, if◌then◌else◌, Option, None, Some, List, [], option_map}
use Rattle.uv_num.specs.declared.limits.TheConstants.{FIRST_QP_NUMBER}
use Rattle.uv_packet.specs.Packets.{Content}
use Rattle.uv_queue.specs.Queued.{Queued}
use Rattle.uv_wr.specs.Works.{Receiving}
use Rattle.uv_qp.specs.Pairs.{Paired}
use Rattle.uv_engine.specs.declared.lent.CqLent.{CqLent}
use Rattle.uv_engine.specs.declared.lent.Lent.{Lent}
use Rattle.uv_engine.specs.Acting.{is_here}
use Rattle.uv_engine.specs.Ringing.{is_shared}
use Rattle.uv_engine.specs.Wanting.{keys_needed}
use Rattle.uv_world.specs.declared.cells.Cell.{Cell}
use Rattle.uv_world.specs.declared.content.Belled.{Belled}
use Rattle.uv_world.specs.declared.content.Connected.{Connected}
use Rattle.uv_world.specs.declared.content.Shared.{Shared}
use Rattle.uv_world.specs.declared.taking.PairPlaces.{PairPlaces}
use Rattle.uv_world.specs.declared.taking.QueuePlace.{QueuePlace}
use Rattle.uv_world.specs.Celled.{value_if, value_of_cell}
use Rattle.uv_world.specs.Holdings.{Held}
use Rattle.uv_world.specs.Lending.{lend_all, nothing_lent}

-- What a queue pair does.

-- a send turn, a tick, or the taking of a packet that goes from one device to another
pub data PairTask : Type 0 where
  MakesTurn : PairTask
  MakesTick : PairTask
  TakesPacket : (from to : ℕ) (packet : Content) → PairTask

-- the cell of the queue pair of a number
abbrev pub cell_of_number : ℕ → Option ℕ
cell_of_number number = if nat_lt number FIRST_QP_NUMBER then None else Some (number - FIRST_QP_NUMBER)

-- a packet is for a queue pair of the device that it comes to
abbrev pub is_of_device : Option ℕ → Paired → Bool
is_of_device None p = true
is_of_device (Some to) p = is_here p to

-- what is named is live
abbrev pub is_live_if : {T : Type 0} → List (Cell T) → Option ℕ → Bool
is_live_if cells None = true
is_live_if cells (Some at) = is_some (value_of_cell cells at)

-- A queue pair, if all that its actions need is live.

-- a completion queue, as it is lent
abbrev pub queue_lent : ℕ → Belled → CqLent
queue_lent at q = record { cell = at; channel = q.channel; ring = q.ring }

-- if its channel is live, where it has one
abbrev pub queue_told : List (Cell (List ℕ)) → Option CqLent → Option CqLent
queue_told channels None = None
queue_told channels (Some cq) = if is_live_if channels cq.channel then Some cq else None

-- the completion queue in a cell
abbrev pub queue_at : List (Cell Belled) → List (Cell (List ℕ)) → Option ℕ → Option CqLent
queue_at rings channels None = None
queue_at rings channels (Some at) = queue_told channels (option_map (queue_lent at) (value_of_cell rings at))

-- the cell of the shared receive queue, where the pair has one
abbrev pub shared_place : Connected → Option ℕ
shared_place p = if p.qp.srq then p.shared else None

abbrev pub is_shared_live : List (Cell Shared) → Connected → Bool
is_shared_live shared p = if p.qp.srq then is_some (value_if shared p.shared) else true

-- a queue pair in its cell, and its completion queues
pub record ReadyPair : Type 0 where
  pub at : ℕ
  pub pair : Connected
  pub send : CqLent
  pub receive : CqLent

abbrev pub ready_with : List (Cell Shared) → ℕ → Connected → Option CqLent → Option CqLent → Option ReadyPair
ready_with shared at p None receive = None
ready_with shared at p (Some send) None = None
ready_with shared at p (Some send) (Some receive) =
    if is_shared_live shared p then Some (record { at = at; pair = p; send = send; receive = receive }) else None

abbrev pub ready_pair : Held → ℕ → Option ℕ → Option Connected → Option ReadyPair
ready_pair h at device None = None
ready_pair h at device (Some p) =
    if is_of_device device p.qp then ready_with h.shared at p (queue_at h.rings h.channels p.send) (queue_at h.rings h.channels p.receive) else None

-- the queue pair in a cell, of the device that is named, if it and all that its actions need is live
abbrev pub ready_at : Held → ℕ → Option ℕ → Option ReadyPair
ready_at h at device = ready_pair h at device (value_of_cell h.pairs at)

-- What is lent to its action.

-- the completion queue of the receives, where it is another than that of the sends
abbrev pub own_queue : ReadyPair → Option CqLent
own_queue r = if r.send.cell == r.receive.cell then None else Some r.receive

abbrev pub own_place : ReadyPair → Option ℕ
own_place r = if r.send.cell == r.receive.cell then None else Some r.receive.cell

-- the cell of its channel, where that is another
abbrev pub own_channel : ReadyPair → Option ℕ
own_channel r =
    if r.send.cell == r.receive.cell then None
    else (if is_shared r.send.channel r.receive.channel then None
    else r.receive.channel)

-- the works of the shared receive queue
abbrev pub works_of : Shared → Queued Receiving
works_of q = q.works

abbrev pub works_lent : Held → ReadyPair → Option (Queued Receiving)
works_lent h r = option_map works_of (value_if h.shared (shared_place r.pair))

-- the keys that it wants; a tick wants none
abbrev pub keys_for : PairTask → Paired → Option (Queued Receiving) → List ℕ
keys_for MakesTurn p shared = keys_needed p None shared
keys_for MakesTick p shared = []
keys_for (TakesPacket from to packet) p shared = keys_needed p (Some packet) shared

abbrev pub keys_lent : Held → ReadyPair → PairTask → List ℕ
keys_lent h r task = keys_for task r.pair.qp (works_lent h r)

-- each thing by its owner, and the regions that the keys lead to
abbrev pub lent_to : Held → ReadyPair → List ℕ → Lent
lent_to h r keys = record {
  qp = r.pair.qp;
  send = r.send;
  receive = own_queue r;
  send_channel = value_if h.channels r.send.channel;
  receive_channel = value_if h.channels (own_channel r);
  srq = works_lent h r;
  regions = (lend_all h.windows (nothing_lent h.regions) keys).lent;
}

-- Where all that lies.

abbrev pub queue_place : CqLent → QueuePlace
queue_place cq = record { cell = cq.cell; channel = cq.channel }

abbrev pub places_of_pair : ReadyPair → PairPlaces
places_of_pair r = record {
  pair = r.at;
  send = r.send.cell;
  receive = own_place r;
  send_channel = r.send.channel;
  receive_channel = own_channel r;
  shared = shared_place r.pair;
}

-- these are the places of a queue pair that is ready
pub record AreReadyPlaces (h : Held) (x : PairPlaces) : Type 0 where
  pub device : Option ℕ
  pub ready : ReadyPair
  pub found : ready_at h x.pair device ≡ Some ready
  pub places : x ≡ places_of_pair ready
