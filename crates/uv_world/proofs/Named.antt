-- A change of what a cell holds, by a call of the data path, leaves who holds it: the cells still fit their objects.
use Rattle.std.proofs.Common.{◌≡◌, ◌+◌, ◌∙◌, ℕ, zero, suc, Bool, true, false, List, [], ◌∷◌, Option, None, Some, map, length, refl, sym, ap, subst, arith}
use Rattle.std.specs.Prelude.{◌==◌, slice_get, option_map, sum_by, if◌then◌else◌}
use Rattle.uv_num.specs.declared.kind.Kind.{Kind}
use Rattle.uv_num.specs.declared.kind.Kind.TheVariants as kind
use Rattle.uv_num.specs.Place.{at_place}
use Rattle.uv_num.proofs.PlaceLaws.{at_place-cons, map-at_place}
use Rattle.uv_machine.proofs.Sums.{worth, sum_by-at_place_worth}
use Rattle.uv_queue.specs.Order.{without_oldest}
use Rattle.uv_region.specs.declared.region.ActTried.{ActTried}
use Rattle.uv_region.specs.declared.region.ActTried.TheVariants as act
use Rattle.uv_region.specs.Acting.{after_action}
use Rattle.uv_region.specs.Actions.{PlainAction}
use Rattle.uv_region.specs.Registered.{Registered}
use Rattle.uv_wr.specs.declared.tried.Tried.{Tried}
use Rattle.uv_wr.specs.declared.tried.Tried.TheVariants.{Did, Inval, Full, Again, Dead, NoMemory}
use Rattle.uv_wr.specs.Works.{Receiving, Sending}
use Rattle.uv_world.specs.declared.cells.Cell.{Cell}
use Rattle.uv_world.specs.declared.content.Connected.{Connected}
use Rattle.uv_world.specs.declared.content.Shared.{Shared}
use Rattle.uv_world.specs.declared.contents.Contents.{Contents}
use Rattle.uv_world.specs.declared.world.World.{World}
use Rattle.uv_world.specs.Celled.{cell_changed_by}
use Rattle.uv_world.specs.Completing.{held_armed, held_event_taken, held_polled, ring_armed, ring_polled}
use Rattle.uv_world.specs.Fitting.{StageFits, holds_under, outline, outlines, something}
use Rattle.uv_world.specs.Holdings.{Held, held_of}
use Rattle.uv_world.specs.Named.{SameCells, cell_under, cells_under}
use Rattle.uv_world.specs.Owing.{counts_cell, counts_value, full_cells}
use Rattle.uv_world.specs.Poking.{held_acted, region_acted}
use Rattle.uv_world.specs.Posting.{held_receive_posted, held_srq_posted, pair_with_receive, receive_tried, shared_tried, shared_with}
use Rattle.uv_world.specs.Seating.{stage_of}
use Rattle.uv_world.specs.Sending.{handle_given, held_send_posted, pair_with_send, send_tried, sending_by}
use Rattle.uv_world.specs.Stages.{Stage}

-- One cell.

value_outline : {T : Type 0} (f : T → T) (v : Option T) → option_map something (option_map f v) ≡ option_map something v
value_outline f None = refl
value_outline f (Some x) = refl

if_outline : {T : Type 0} (b : Bool) (f : T → T) (cell : Cell T) → outline (if b then cell_changed_by f cell else cell) ≡ outline cell
if_outline true f cell = ap (λ (v : Option (Unit {0})). (let c : Cell (Unit {0}) = record { generation = cell.generation; value = v } in c)) (value_outline f cell.value)
if_outline false f cell = refl

under_outline : {T : Type 0} (cells : List (Cell T)) (name : ℕ × ℕ) (f : T → T) → map outline (cells_under cells name f) ≡ map outline cells
under_outline cells name f = map-at_place outline cells name.0 (cell_under name.1 f) (λ cell. if_outline (cell.generation == name.1) f cell)

value_count : {T : Type 0} (f : T → T) (v : Option T) → counts_value (option_map f v) ≡ counts_value v
value_count f None = refl
value_count f (Some x) = refl

if_count : {T : Type 0} (b : Bool) (f : T → T) (cell : Cell T) → counts_cell (if b then cell_changed_by f cell else cell) ≡ counts_cell cell
if_count true f cell = value_count f cell.value
if_count false f cell = refl

value_same : {T : Type 0} (v : Option T) → option_map (λ (x : T). x) v ≡ v
value_same None = refl
value_same (Some x) = refl

worth_kept : {X : Type 0} (c : X → ℕ) (f : X → X) → ((x : X) → c (f x) ≡ c x) → (o : Option X) → worth c (option_map f o) ≡ worth c o
worth_kept c f keeps None = refl
worth_kept c f keeps (Some x) = keeps x

sum_kept : {X : Type 0} (c : X → ℕ) (f : X → X) → ((x : X) → c (f x) ≡ c x) → (xs : List X) (i : ℕ) → sum_by c (at_place xs i f) ≡ sum_by c xs
sum_kept c f keeps xs i =
    let kept : worth c (option_map f (slice_get xs i)) ≡ worth c (slice_get xs i) = worth_kept c f keeps (slice_get xs i) in
    let sums : sum_by c (at_place xs i f) + worth c (slice_get xs i) ≡ sum_by c xs + worth c (option_map f (slice_get xs i)) = sum_by-at_place_worth c f xs i in
    omega (arith, kept, sums)

-- as many cells hold something
pub under_count : {T : Type 0} (cells : List (Cell T)) (name : ℕ × ℕ) (f : T → T) → full_cells (cells_under cells name f) ≡ full_cells cells
under_count cells name f = sum_kept counts_cell (cell_under name.1 f) (λ cell. if_count (cell.generation == name.1) f cell) cells name.0

same_if : {T : Type 0} (b : Bool) (cell : Cell T) → (if b then cell_changed_by (λ (x : T). x) cell else cell) ≡ cell
same_if true cell = ap (λ v. record cell { value = v }) (value_same cell.value)
same_if false cell = refl

-- a change that leaves each item leaves the list
place_same : {X : Type 0} (f : X → X) → ((x : X) → f x ≡ x) → (xs : List X) (i : ℕ) → at_place xs i f ≡ xs
place_same f keeps [] i = refl
place_same f keeps (x ∷ xs) zero = ap (λ v. v ∷ xs) (keeps x)
place_same f keeps (x ∷ xs) (suc i) = at_place-cons x xs i f ∙ ap (λ v. x ∷ v) (place_same f keeps xs i)

pub under_same : {T : Type 0} (cells : List (Cell T)) (name : ℕ × ℕ) → cells_under cells name (λ (x : T). x) ≡ cells
under_same {T} cells name = place_same (cell_under name.1 (λ (x : T). x)) (λ cell. same_if (cell.generation == name.1) cell) cells name.0

-- What is held: the same cells hold something, and the same waits to be planted.

same_itself : (h : Held) → SameCells h h
same_itself h = record { outlined = λ k. refl; pending = refl }

ring_outlines : (h : Held) (name : ℕ × ℕ) (k : Kind) → outlines (held_polled h name) k ≡ outlines h k
ring_outlines h name kind.Pd = refl
ring_outlines h name kind.Channel = refl
ring_outlines h name kind.Cq = under_outline h.rings name ring_polled
ring_outlines h name kind.Qp = refl
ring_outlines h name kind.Srq = refl
ring_outlines h name kind.Ah = refl
ring_outlines h name kind.Mr = refl
ring_outlines h name kind.Mw = refl

pub same_polled : (h : Held) (cq : ℕ × ℕ) → SameCells h (held_polled h cq)
same_polled h cq = record { outlined = ring_outlines h cq; pending = refl }

armed_outlines : (h : Held) (name : ℕ × ℕ) (solicited : Bool) (k : Kind) → outlines (held_armed h name solicited) k ≡ outlines h k
armed_outlines h name solicited kind.Pd = refl
armed_outlines h name solicited kind.Channel = refl
armed_outlines h name solicited kind.Cq = under_outline h.rings name (ring_armed solicited)
armed_outlines h name solicited kind.Qp = refl
armed_outlines h name solicited kind.Srq = refl
armed_outlines h name solicited kind.Ah = refl
armed_outlines h name solicited kind.Mr = refl
armed_outlines h name solicited kind.Mw = refl

pub same_armed : (h : Held) (cq : ℕ × ℕ) (solicited : Bool) → SameCells h (held_armed h cq solicited)
same_armed h cq solicited = record { outlined = armed_outlines h cq solicited; pending = refl }

event_outlines : (h : Held) (name : ℕ × ℕ) (k : Kind) → outlines (held_event_taken h name) k ≡ outlines h k
event_outlines h name kind.Pd = refl
event_outlines h name kind.Channel = under_outline h.channels name without_oldest
event_outlines h name kind.Cq = refl
event_outlines h name kind.Qp = refl
event_outlines h name kind.Srq = refl
event_outlines h name kind.Ah = refl
event_outlines h name kind.Mr = refl
event_outlines h name kind.Mw = refl

pub same_event_taken : (h : Held) (channel : ℕ × ℕ) → SameCells h (held_event_taken h channel)
same_event_taken h channel = record { outlined = event_outlines h channel; pending = refl }

-- Regions.

region_outlines : (h : Held) (name : ℕ × ℕ) (f : Registered → Registered) (k : Kind) → outlines (record h { regions = cells_under h.regions name f }) k ≡ outlines h k
region_outlines h name f kind.Pd = refl
region_outlines h name f kind.Channel = refl
region_outlines h name f kind.Cq = refl
region_outlines h name f kind.Qp = refl
region_outlines h name f kind.Srq = refl
region_outlines h name f kind.Ah = refl
region_outlines h name f kind.Mr = under_outline h.regions name f
region_outlines h name f kind.Mw = refl

pub same_acted : (h : Held) (mr : ℕ × ℕ) (action : Registered → PlainAction) (answer : ActTried) → SameCells h (held_acted h mr action answer)
same_acted h mr action (act.Did told) = record { outlined = region_outlines h mr (λ r. after_action r (action r)); pending = refl }
same_acted h mr action (act.Denied why) = same_itself h
same_acted h mr action (act.Again word) = same_itself h
same_acted h mr action (act.Dead word) = same_itself h
same_acted h mr action act.NoMemory = same_itself h

regions_same : (h : Held) (mr : ℕ × ℕ) → (let now : Held = record h { regions = cells_under h.regions mr (λ (r : Registered). r) } in now) ≡ h
regions_same h mr = ap (λ (cells : List (Cell Registered)). record h { regions = cells }) (under_same h.regions mr)

pub acted_is : (h : Held) (mr : ℕ × ℕ) (action : Registered → PlainAction) (answer : ActTried) → (let now : Held = record h { regions = cells_under h.regions mr (region_acted action answer) } in now) ≡ held_acted h mr action answer
acted_is h mr action (act.Did told) = refl
acted_is h mr action (act.Denied why) = regions_same h mr
acted_is h mr action (act.Again word) = regions_same h mr
acted_is h mr action (act.Dead word) = regions_same h mr
acted_is h mr action act.NoMemory = regions_same h mr

-- Shared receive queues.

shared_outlines : (h : Held) (name : ℕ × ℕ) (f : Shared → Shared) (k : Kind) → outlines (record h { shared = cells_under h.shared name f }) k ≡ outlines h k
shared_outlines h name f kind.Pd = refl
shared_outlines h name f kind.Channel = refl
shared_outlines h name f kind.Cq = refl
shared_outlines h name f kind.Qp = refl
shared_outlines h name f kind.Srq = under_outline h.shared name f
shared_outlines h name f kind.Ah = refl
shared_outlines h name f kind.Mr = refl
shared_outlines h name f kind.Mw = refl

pub same_srq_posted : (h : Held) (srq : ℕ × ℕ) (w : Receiving) (answer : Tried Receiving) → SameCells h (held_srq_posted h srq w answer)
same_srq_posted h srq w Did = record { outlined = shared_outlines h srq (shared_with w); pending = refl }
same_srq_posted h srq w (Inval back by_state) = same_itself h
same_srq_posted h srq w (Full back) = same_itself h
same_srq_posted h srq w (Again word back) = same_itself h
same_srq_posted h srq w (Dead word back) = same_itself h
same_srq_posted h srq w (NoMemory back) = same_itself h

shared_same : (h : Held) (srq : ℕ × ℕ) → (let now : Held = record h { shared = cells_under h.shared srq (λ (q : Shared). q) } in now) ≡ h
shared_same h srq = ap (λ (cells : List (Cell Shared)). record h { shared = cells }) (under_same h.shared srq)

pub srq_posted_is : (h : Held) (srq : ℕ × ℕ) (w : Receiving) (answer : Tried Receiving) → (let now : Held = record h { shared = cells_under h.shared srq (shared_tried w answer) } in now) ≡ held_srq_posted h srq w answer
srq_posted_is h srq w Did = refl
srq_posted_is h srq w (Inval back by_state) = shared_same h srq
srq_posted_is h srq w (Full back) = shared_same h srq
srq_posted_is h srq w (Again word back) = shared_same h srq
srq_posted_is h srq w (Dead word back) = shared_same h srq
srq_posted_is h srq w (NoMemory back) = shared_same h srq

-- Queue pairs.

pair_outlines : (h : Held) (name : ℕ × ℕ) (f : Connected → Connected) (k : Kind) → outlines (record h { pairs = cells_under h.pairs name f }) k ≡ outlines h k
pair_outlines h name f kind.Pd = refl
pair_outlines h name f kind.Channel = refl
pair_outlines h name f kind.Cq = refl
pair_outlines h name f kind.Qp = under_outline h.pairs name f
pair_outlines h name f kind.Srq = refl
pair_outlines h name f kind.Ah = refl
pair_outlines h name f kind.Mr = refl
pair_outlines h name f kind.Mw = refl

pub same_receive_posted : (h : Held) (qp : ℕ × ℕ) (w : Receiving) (answer : Tried Receiving) → SameCells h (held_receive_posted h qp w answer)
same_receive_posted h qp w Did = record { outlined = pair_outlines h qp (pair_with_receive w); pending = refl }
same_receive_posted h qp w (Inval back by_state) = same_itself h
same_receive_posted h qp w (Full back) = same_itself h
same_receive_posted h qp w (Again word back) = same_itself h
same_receive_posted h qp w (Dead word back) = same_itself h
same_receive_posted h qp w (NoMemory back) = same_itself h

pairs_same : (h : Held) (qp : ℕ × ℕ) → (let now : Held = record h { pairs = cells_under h.pairs qp (λ (p : Connected). p) } in now) ≡ h
pairs_same h qp = ap (λ (cells : List (Cell Connected)). record h { pairs = cells }) (under_same h.pairs qp)

pub receive_posted_is : (h : Held) (qp : ℕ × ℕ) (w : Receiving) (answer : Tried Receiving) → (let now : Held = record h { pairs = cells_under h.pairs qp (receive_tried w answer) } in now) ≡ held_receive_posted h qp w answer
receive_posted_is h qp w Did = refl
receive_posted_is h qp w (Inval back by_state) = pairs_same h qp
receive_posted_is h qp w (Full back) = pairs_same h qp
receive_posted_is h qp w (Again word back) = pairs_same h qp
receive_posted_is h qp w (Dead word back) = pairs_same h qp
receive_posted_is h qp w (NoMemory back) = pairs_same h qp

pub same_send_posted : (h : Held) (qp : ℕ × ℕ) (ah : Option (ℕ × ℕ)) (w : Sending) (answer : Tried Sending) → SameCells h (held_send_posted h qp ah w answer)
same_send_posted h qp ah w Did = record { outlined = pair_outlines h qp (pair_with_send (sending_by (handle_given h ah) w)); pending = refl }
same_send_posted h qp ah w (Inval back by_state) = same_itself h
same_send_posted h qp ah w (Full back) = same_itself h
same_send_posted h qp ah w (Again word back) = same_itself h
same_send_posted h qp ah w (Dead word back) = same_itself h
same_send_posted h qp ah w (NoMemory back) = same_itself h

pub send_posted_is : (h : Held) (qp : ℕ × ℕ) (ah : Option (ℕ × ℕ)) (w : Sending) (answer : Tried Sending) → (let now : Held = record h { pairs = cells_under h.pairs qp (send_tried (sending_by (handle_given h ah) w) answer) } in now) ≡ held_send_posted h qp ah w answer
send_posted_is h qp ah w Did = refl
send_posted_is h qp ah w (Inval back by_state) = pairs_same h qp
send_posted_is h qp ah w (Full back) = pairs_same h qp
send_posted_is h qp ah w (Again word back) = pairs_same h qp
send_posted_is h qp ah w (Dead word back) = pairs_same h qp
send_posted_is h qp ah w (NoMemory back) = pairs_same h qp

-- Stages.

fits_same_cells : (s : Stage) (h : Held) → SameCells s.held h → StageFits s → StageFits (record s { held = h })
fits_same_cells s h same f = record {
  legal = f.legal;
  cells = λ k has. ap length (same.outlined k) ∙ f.cells k has;
  waits = same.pending ∙ f.waits;
  tell = f.tell;
  fit = λ k i g has. ap (λ (v : List (Cell (Unit {0}))). holds_under g (slice_get v i)) (same.outlined k) ∙ f.fit k i g has;
}

-- contents alone have changed, and the same cells hold something
pub fits_beside : (w : World) (contents : Contents) (h : Held) → held_of contents ≡ h → SameCells (held_of w.contents) h → StageFits (stage_of w) → StageFits (stage_of (record w { contents = contents }))
fits_beside w contents h is same f =
    let P : Held → Type 0 = λ v. StageFits (record { history = w.core.history; held = v }) in
    subst P (sym is) (fits_same_cells (stage_of w) h same f)
