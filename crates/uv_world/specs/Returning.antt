-- What comes back after an action: each cell holds what it held, with what the action left of that.
use Rattle.std.specs.Prelude.{ℕ, ◌≡◌, Option, None, Some, List}
use Rattle.uv_queue.specs.Queued.{Queued}
use Rattle.uv_wr.specs.Works.{Receiving}
use Rattle.uv_qp.specs.Pairs.{Paired}
use Rattle.uv_region.specs.Lent as region
use Rattle.uv_region.specs.Registered.{Registered}
use Rattle.uv_engine.specs.declared.lent.CqLent.{CqLent}
use Rattle.uv_engine.specs.declared.lent.Lent.{Lent}
use Rattle.uv_world.specs.declared.cells.Cell.{Cell}
use Rattle.uv_world.specs.declared.content.Belled.{Belled}
use Rattle.uv_world.specs.declared.content.Connected.{Connected}
use Rattle.uv_world.specs.declared.content.Shared.{Shared}
use Rattle.uv_world.specs.Celled.{cells_changed}
use Rattle.uv_world.specs.Holdings.{Held}
use Rattle.uv_world.specs.Lending.{AreDifferent, lend_all, nothing_lent, return_all}
use Rattle.uv_world.specs.Taking.{ReadyPair, lent_to, own_channel, own_place, ready_at, shared_place}

abbrev pub pair_with : Paired → Connected → Connected
pair_with qp p = record p { qp = qp }

abbrev pub queue_with : CqLent → Belled → Belled
queue_with cq q = record q { ring = cq.ring }

abbrev pub works_with : Queued Receiving → Shared → Shared
works_with works q = record q { works = works }

abbrev pub events_with : List ℕ → List ℕ → List ℕ
events_with events before = events

-- a cell that is named, with what came back, if anything did
abbrev pub cells_with : {T V : Type 0} → List (Cell T) → Option ℕ → (V → T → T) → Option V → List (Cell T)
cells_with cells None with now = cells
cells_with cells (Some at) with None = cells
cells_with cells (Some at) with (Some v) = cells_changed cells at (with v)

-- the regions of the keys come back into the cells that they were lent from
abbrev pub regions_with : Held → List ℕ → region.Lent → List (Cell Registered)
regions_with h keys lent = (return_all h.windows (record { regions = (lend_all h.windows (nothing_lent h.regions) keys).regions; lent = lent }) keys).regions

-- what is held after this came back
abbrev pub held_with_lent : Held → ReadyPair → List ℕ → Lent → Held
held_with_lent h r keys lent = record h {
  pairs = cells_changed h.pairs r.at (pair_with lent.qp);
  rings = cells_with (cells_changed h.rings r.send.cell (queue_with lent.send)) (own_place r) queue_with lent.receive;
  channels = cells_with (cells_with h.channels r.send.channel events_with lent.send_channel) (own_channel r) events_with lent.receive_channel;
  shared = cells_with h.shared (shared_place r.pair) works_with lent.srq;
  regions = regions_with h keys lent.regions;
}

-- what was taken for an action and comes back as it was leaves all as it was held
abbrev pub TakenComesBack : Type 0
TakenComesBack =
    (h : Held) (at : ℕ) (device : Option ℕ) (r : ReadyPair) (keys : List ℕ) → ready_at h at device ≡ Some r → AreDifferent keys → held_with_lent h r keys (lent_to h r keys) ≡ h
