-- What is known of a queue pair that is ready.
use Rattle.std.proofs.Common.{◌≡◌, ◌∙◌, ℕ, Bool, true, false, List, [], Option, None, Some, refl, sym, ap, subst}
use Rattle.std.specs.FinMap as map
use Rattle.std.specs.Prelude.{◌==◌, is_some, option_map, if◌then◌else◌}
use Rattle.uv_wr.specs.Works.{Receiving}
use Rattle.uv_queue.specs.Queued.{Queued}
use Rattle.uv_qp.specs.Pairs.{Paired}
use Rattle.uv_engine.specs.declared.lent.CqLent.{CqLent}
use Rattle.uv_engine.specs.declared.lent.Lent.{Lent}
use Rattle.uv_engine.specs.Ringing.{is_shared}
use Rattle.uv_region.specs.Lent as region
use Rattle.uv_world.specs.declared.cells.Cell.{Cell}
use Rattle.uv_world.specs.declared.content.Belled.{Belled}
use Rattle.uv_world.specs.declared.content.Connected.{Connected}
use Rattle.uv_world.specs.declared.content.Shared.{Shared}
use Rattle.uv_world.specs.declared.taking.PairLinks.{PairLinks}
use Rattle.uv_world.specs.declared.taking.PairPlaces.{PairPlaces}
use Rattle.uv_world.specs.declared.taking.QueueLeft.{QueueLeft}
use Rattle.uv_world.specs.declared.taking.SetAside.{SetAside}
use Rattle.uv_world.specs.Celled.{cell_emptied, cells_emptied, cells_emptied_if, value_if, value_of_cell}
use Rattle.uv_world.specs.Holdings.{Held}
use Rattle.uv_world.specs.Setting.{AreTaken, aside_of, belled_back, connected_back, links_of, queue_if, queue_left}
use Rattle.uv_world.specs.Taking.{AreReadyPlaces, ReadyPair, is_live_if, is_of_device, is_shared_live, lent_to, own_channel, own_place, own_queue, places_of_pair, queue_at, queue_lent, queue_told, ready_at, ready_pair, ready_with, shared_place, works_lent, works_of}
use Rattle.uv_world.proofs.Refilling.{shared_apart, value_apart}

-- Its completion queues.

-- the queue stands in its cell, with its channel live
pub record HasQueue (rings : List (Cell Belled)) (channels : List (Cell (List ℕ))) (at : Option ℕ) (cq : CqLent) : Type 0 where
  pub named : at ≡ Some cq.cell
  pub stands : value_of_cell rings cq.cell ≡ Some (belled_back cq)
  pub told : is_live_if channels cq.channel ≡ true

if_some : {X : Type 0} (b : Bool) (x v : X) → (if b then Some x else None) ≡ Some v → (b ≡ true) × (x ≡ v)
if_some true x v e = (refl, cc)
if_some false x v e = absurd cc

queue_stands : (rings : List (Cell Belled)) (channels : List (Cell (List ℕ))) (at : ℕ) (cq : CqLent) (o : Option Belled) → value_of_cell rings at ≡ o → queue_told channels (option_map (queue_lent at) o) ≡ Some cq → HasQueue rings channels (Some at) cq
queue_stands rings channels at cq None is e = absurd cc
queue_stands rings channels at cq (Some q) is e =
    let (told, same) = if_some (is_live_if channels q.channel) (queue_lent at q) cq e in
    subst (HasQueue rings channels (Some at)) same record { named = refl; stands = is; told = told }

pub queue_found : (rings : List (Cell Belled)) (channels : List (Cell (List ℕ))) (at : Option ℕ) (cq : CqLent) → queue_at rings channels at ≡ Some cq → HasQueue rings channels at cq
queue_found rings channels None cq e = absurd cc
queue_found rings channels (Some at) cq e = queue_stands rings channels at cq (value_of_cell rings at) refl e

-- All of it.

pub record IsReadied (h : Held) (at : ℕ) (device : Option ℕ) (r : ReadyPair) : Type 0 where
  pub cell : r.at ≡ at
  pub stands : value_of_cell h.pairs at ≡ Some r.pair
  pub of_device : is_of_device device r.pair.qp ≡ true
  pub send : HasQueue h.rings h.channels r.pair.send r.send
  pub receive : HasQueue h.rings h.channels r.pair.receive r.receive
  pub shared : is_shared_live h.shared r.pair ≡ true

readied_with :
    (h : Held) (at : ℕ) (device : Option ℕ) (p : Connected) (send receive : Option CqLent) (r : ReadyPair) → value_of_cell h.pairs at ≡ Some p → is_of_device device p.qp ≡ true
    → queue_at h.rings h.channels p.send ≡ send → queue_at h.rings h.channels p.receive ≡ receive → ready_with h.shared at p send receive ≡ Some r → IsReadied h at device r
readied_with h at device p None receive r stands of_device is_send is_receive e = absurd cc
readied_with h at device p (Some send) None r stands of_device is_send is_receive e = absurd cc
readied_with h at device p (Some send) (Some receive) r stands of_device is_send is_receive e =
    let ready : ReadyPair = record { at = at; pair = p; send = send; receive = receive } in
    let (shared, same) = if_some (is_shared_live h.shared p) ready r e in
    subst (IsReadied h at device) same record {
      cell = refl;
      stands = stands;
      of_device = of_device;
      send = queue_found h.rings h.channels p.send send is_send;
      receive = queue_found h.rings h.channels p.receive receive is_receive;
      shared = shared;
    }

readied_if :
    (h : Held) (at : ℕ) (device : Option ℕ) (p : Connected) (r : ReadyPair) (b : Bool) → is_of_device device p.qp ≡ b → value_of_cell h.pairs at ≡ Some p
    → (if b then ready_with h.shared at p (queue_at h.rings h.channels p.send) (queue_at h.rings h.channels p.receive) else None) ≡ Some r → IsReadied h at device r
readied_if h at device p r true is stands e = readied_with h at device p (queue_at h.rings h.channels p.send) (queue_at h.rings h.channels p.receive) r stands is refl refl e
readied_if h at device p r false is stands e = absurd cc

readied_pair : (h : Held) (at : ℕ) (device : Option ℕ) (o : Option Connected) (r : ReadyPair) → value_of_cell h.pairs at ≡ o → ready_pair h at device o ≡ Some r → IsReadied h at device r
readied_pair h at device None r stands e = absurd cc
readied_pair h at device (Some p) r stands e = readied_if h at device p r (is_of_device device p.qp) refl stands e

pub readied : (h : Held) (at : ℕ) (device : Option ℕ) (r : ReadyPair) → ready_at h at device ≡ Some r → IsReadied h at device r
readied h at device r e = readied_pair h at device (value_of_cell h.pairs at) r refl e

-- Its places: each cell once, and all live.

own_apart_if : (send receive : ℕ) (b : Bool) → (send == receive) ≡ b → is_shared (Some send) (if b then None else Some receive) ≡ false
own_apart_if send receive true is = refl
own_apart_if send receive false is = is

pub own_apart : (r : ReadyPair) → is_shared (Some r.send.cell) (own_place r) ≡ false
own_apart r = own_apart_if r.send.cell r.receive.cell (r.send.cell == r.receive.cell) refl

channel_apart_none : (first : Option ℕ) → is_shared first None ≡ false
channel_apart_none None = refl
channel_apart_none (Some first) = refl

channel_apart_if : (first second : Option ℕ) (b c : Bool) → is_shared first second ≡ c → is_shared first (if b then None else (if c then None else second)) ≡ false
channel_apart_if first second true c is = channel_apart_none first
channel_apart_if first second false true is = channel_apart_none first
channel_apart_if first second false false is = is

pub channel_apart : (r : ReadyPair) → is_shared r.send.channel (own_channel r) ≡ false
channel_apart r = channel_apart_if r.send.channel r.receive.channel (r.send.cell == r.receive.cell) (is_shared r.send.channel r.receive.channel) refl

own_live_if : (rings : List (Cell Belled)) (at : ℕ) (q : Belled) (b : Bool) → value_of_cell rings at ≡ Some q → is_live_if rings (if b then None else Some at) ≡ true
own_live_if rings at q true is = refl
own_live_if rings at q false is = ap is_some is

pub own_live : (h : Held) (at : ℕ) (device : Option ℕ) (r : ReadyPair) → IsReadied h at device r → is_live_if h.rings (own_place r) ≡ true
own_live h at device r known = own_live_if h.rings r.receive.cell (belled_back r.receive) (r.send.cell == r.receive.cell) known.receive.stands

channel_live_if : (channels : List (Cell (List ℕ))) (second : Option ℕ) (b c : Bool) → is_live_if channels second ≡ true → is_live_if channels (if b then None else (if c then None else second)) ≡ true
channel_live_if channels second true c live = refl
channel_live_if channels second false true live = refl
channel_live_if channels second false false live = live

pub channel_live : (h : Held) (at : ℕ) (device : Option ℕ) (r : ReadyPair) → IsReadied h at device r → is_live_if h.channels (own_channel r) ≡ true
channel_live h at device r known = channel_live_if h.channels r.receive.channel (r.send.cell == r.receive.cell) (is_shared r.send.channel r.receive.channel) known.receive.told

named_live : {T : Type 0} (cells : List (Cell T)) (at : Option ℕ) → is_some (value_if cells at) ≡ true → is_live_if cells at ≡ true
named_live cells None live = refl
named_live cells (Some at) live = live

shared_live_if : (shared : List (Cell Shared)) (at : Option ℕ) (b : Bool) → (if b then is_some (value_if shared at) else true) ≡ true → is_live_if shared (if b then at else None) ≡ true
shared_live_if shared at true live = named_live shared at live
shared_live_if shared at false live = refl

pub shared_live : (h : Held) (at : ℕ) (device : Option ℕ) (r : ReadyPair) → IsReadied h at device r → is_live_if h.shared (shared_place r.pair) ≡ true
shared_live h at device r known = shared_live_if h.shared r.pair.shared r.pair.qp.srq known.shared

-- works of a shared receive queue are lent exactly where the pair has one

mapped_some : {X Y : Type 0} (f : X → Y) (o : Option X) → is_some (option_map f o) ≡ is_some o
mapped_some f None = refl
mapped_some f (Some x) = refl

works_if : (shared : List (Cell Shared)) (at : Option ℕ) (b : Bool) → (if b then is_some (value_if shared at) else true) ≡ true → b ≡ is_some (option_map works_of (value_if shared (if b then at else None)))
works_if shared at true live = sym live ∙ sym (mapped_some works_of (value_if shared at))
works_if shared at false live = refl

pub works_with_pair : (h : Held) (at : ℕ) (device : Option ℕ) (r : ReadyPair) → IsReadied h at device r → r.pair.qp.srq ≡ is_some (works_lent h r)
works_with_pair h at device r known = works_if h.shared r.pair.shared r.pair.qp.srq known.shared

-- What is taken at the places.

pub pair_live : (h : Held) (x : PairPlaces) → AreReadyPlaces h x → is_some (value_of_cell h.pairs x.pair) ≡ true
pair_live h x places = ap is_some (readied h x.pair places.device places.ready places.found).stands

pub send_live : (h : Held) (x : PairPlaces) → AreReadyPlaces h x → is_some (value_of_cell h.rings x.send) ≡ true
send_live h x places =
    let known = readied h x.pair places.device places.ready places.found in
    ap (λ (y : PairPlaces). is_some (value_of_cell h.rings y.send)) places.places ∙ ap is_some known.send.stands

pub some_is : {X : Type 0} (x y : X) → Some x ≡ Some y → x ≡ y
some_is x y e = cc

queue_kept_apart : (rings : List (Cell Belled)) (send : ℕ) (at : Option ℕ) → is_shared (Some send) at ≡ false → queue_if (cells_emptied rings send) at ≡ queue_if rings at
queue_kept_apart rings send None apart = refl
queue_kept_apart rings send (Some at) apart = ap (option_map (queue_lent at)) (value_apart rings send at cell_emptied (shared_apart send at apart))

pub value_kept_apart : {T : Type 0} (cells : List (Cell T)) (first second : Option ℕ) → is_shared first second ≡ false → value_if (cells_emptied_if cells first) second ≡ value_if cells second
value_kept_apart cells None second apart = refl
value_kept_apart cells (Some first) None apart = refl
value_kept_apart cells (Some first) (Some second) apart = value_apart cells first second cell_emptied (shared_apart first second apart)

own_queue_if : (rings : List (Cell Belled)) (cq : CqLent) (b : Bool) → value_of_cell rings cq.cell ≡ Some (belled_back cq) → queue_if rings (if b then None else Some cq.cell) ≡ (if b then None else Some cq)
own_queue_if rings cq true stands = refl
own_queue_if rings cq false stands = ap (option_map (queue_lent cq.cell)) stands

lent_same :
    (qp qp' : Paired) (send send' : CqLent) (receive receive' : Option CqLent) (sc sc' rc rc' : Option (List ℕ)) (srq srq' : Option (Queued Receiving)) (regions regions' : region.Lent)
    → qp ≡ qp' → send ≡ send' → receive ≡ receive' → sc ≡ sc' → rc ≡ rc' → srq ≡ srq' → regions ≡ regions' → (
    let a : Lent = record { qp = qp; send = send; receive = receive; send_channel = sc; receive_channel = rc; srq = srq; regions = regions } in
    let b : Lent = record { qp = qp'; send = send'; receive = receive'; send_channel = sc'; receive_channel = rc'; srq = srq'; regions = regions' } in
    a ≡ b
    )
lent_same qp qp' send send' receive receive' sc sc' rc rc' srq srq' regions regions' a b c d e f g = cc

aside_same : (links links' : PairLinks) (queue queue' : Option QueueLeft) → links ≡ links' → queue ≡ queue' → (
    let a : SetAside = record { links = links; queue = queue } in
    let b : SetAside = record { links = links'; queue = queue' } in
    a ≡ b
    )
aside_same links links' queue queue' a b = cc

pub taken_there :
    (h : Held) (x : PairPlaces) (qp : Paired) (links : PairLinks) (send : CqLent) (receive : Option CqLent) (send_channel receive_channel : Option (List ℕ)) (srq : Option (Queued Receiving)) (queue : Option QueueLeft) (regions : region.Lent)
    → Some (connected_back qp links) ≡ value_of_cell h.pairs x.pair → Some send ≡ option_map (queue_lent x.send) (value_of_cell h.rings x.send) → receive ≡ queue_if (cells_emptied h.rings x.send) x.receive
    → send_channel ≡ value_if h.channels x.send_channel → receive_channel ≡ value_if (cells_emptied_if h.channels x.send_channel) x.receive_channel
    → srq ≡ option_map works_of (value_if h.shared x.shared) → queue ≡ option_map queue_left (value_if h.shared x.shared) → regions ≡ map.empty
    → AreTaken h x (record { qp = qp; send = send; receive = receive; send_channel = send_channel; receive_channel = receive_channel; srq = srq; regions = regions }) (record { links = links; queue = queue })
taken_there h x qp links send receive send_channel receive_channel srq queue regions pair_is send_is receive_is send_channel_is receive_channel_is srq_is queue_is regions_are device r found places =
    let known = readied h x.pair device r found in
    let pair : connected_back qp links ≡ r.pair = some_is (connected_back qp links) r.pair (pair_is ∙ known.stands) in
    let first : send ≡ r.send = some_is send r.send (send_is ∙ (ap (λ (y : PairPlaces). option_map (queue_lent y.send) (value_of_cell h.rings y.send)) places ∙ ap (option_map (queue_lent r.send.cell)) known.send.stands)) in
    let second : receive ≡ own_queue r =
    receive_is ∙ (ap (λ (y : PairPlaces). queue_if (cells_emptied h.rings y.send) y.receive) places
    ∙ (queue_kept_apart h.rings r.send.cell (own_place r) (own_apart r)
    ∙ own_queue_if h.rings r.receive (r.send.cell == r.receive.cell) known.receive.stands)) in (
      lent_same qp r.pair.qp send r.send receive (own_queue r) send_channel (value_if h.channels r.send.channel) receive_channel (value_if h.channels (own_channel r)) srq (works_lent h r) regions map.empty
          (ap (λ (p : Connected). p.qp) pair) first second (send_channel_is ∙ ap (λ (y : PairPlaces). value_if h.channels y.send_channel) places)
          (receive_channel_is ∙ (ap (λ (y : PairPlaces). value_if (cells_emptied_if h.channels y.send_channel) y.receive_channel) places ∙ value_kept_apart h.channels r.send.channel (own_channel r) (channel_apart r)))
          (srq_is ∙ ap (λ (y : PairPlaces). option_map works_of (value_if h.shared y.shared)) places) regions_are,
      aside_same links (links_of r.pair) queue (option_map queue_left (value_if h.shared (places_of_pair r).shared)) (ap links_of pair) (queue_is ∙ ap (λ (y : PairPlaces). option_map queue_left (value_if h.shared y.shared)) places),
    )
