-- The cells of each kind, without what they hold, after what moves do.
use Rattle.std.proofs.Common.{◌≡◌, ◌∙◌, ℕ, zero, suc, Bool, true, false, List, [], ◌∷◌, Option, None, Some, map, length, refl, sym, ap}
use Rattle.std.specs.Prelude.{◌≢◌, ◌==◌, slice_get, option_map, if◌then◌else◌}
use Rattle.uv_num.specs.declared.attrs.QpAttrs.{QpAttrs}
use Rattle.uv_num.specs.declared.errno.Errno.{Errno}
use Rattle.uv_num.specs.declared.kind.Kind.{Kind}
use Rattle.uv_num.specs.declared.kind.Kind.TheVariants as kind
use Rattle.uv_num.specs.declared.request.Act.{Act}
use Rattle.uv_num.specs.declared.request.Act.TheVariants.{Modify, Query, Bind, Unbind, Async}
use Rattle.uv_num.specs.declared.request.Role.{Role}
use Rattle.uv_num.specs.declared.request.Role.TheVariants.{Creates, Destroys, Acts}
use Rattle.uv_num.specs.Place.{at_place}
use Rattle.uv_num.specs.Qp.{qp_state_of}
use Rattle.uv_num.proofs.PlaceLaws.{at_place-cons, map-at_place, slice_get-at_place_same, slice_get-at_place_other}
use Rattle.uv_machine.specs.declared.call.InFlight.{InFlight}
use Rattle.uv_machine.specs.declared.entry.Entry.{Entry}
use Rattle.uv_machine.specs.declared.entry.Entry.TheVariants.{Open, Enter, Step, Unplug, Tear, Kill, Gone, Dissociated, Closed}
use Rattle.uv_machine.specs.declared.moves.Move.TheVariants as move
use Rattle.uv_machine.specs.declared.moves.Slot.{Slot}
use Rattle.uv_machine.specs.declared.moves.Slot.TheVariants.{OfCall, OfTeardown}
use Rattle.uv_machine.specs.declared.moves.Spot.{Spot}
use Rattle.uv_machine.specs.declared.object.Object.{Object}
use Rattle.uv_machine.specs.declared.state.State.{State}
use Rattle.uv_machine.specs.Effects.{refusal_in}
use Rattle.uv_machine.specs.Moves.{act_move, bind_move, bury_found, cell_seen, modify_move, role_move, unbind_move}
use Rattle.uv_machine.specs.Objects.{is_doomed, is_kind}
use Rattle.uv_world.specs.declared.cells.Cell.{Cell}
use Rattle.uv_world.specs.declared.content.Content.{Content}
use Rattle.uv_world.specs.declared.content.Content.TheVariants as content
use Rattle.uv_world.specs.Celled.{cell_changed_by, cell_emptied, cell_planted, value_of_cell}
use Rattle.uv_world.specs.Fitting.{holds_under, outline, outlines, something}
use Rattle.uv_world.specs.Holdings.{Held}
use Rattle.uv_world.specs.Making.{content_for}
use Rattle.uv_world.specs.Moving.{address_named, bound_over, held_at, held_brought, held_closed, held_in_slot, held_moved, held_planted, held_unless, held_with_pending, held_with_slot, held_without, pair_linked, pair_modified, region_id, region_named, ring_linked, shared_named, window_bound, window_named}

-- One list of cells.

pub changed_outline : {X Y : Type 0} (s : X → Y) (f : X → X) (f' : Y → Y) → ((x : X) → s (f x) ≡ f' (s x)) → (xs : List X) (i : ℕ) → map s (at_place xs i f) ≡ at_place (map s xs) i f'
changed_outline s f f' h [] i = refl
changed_outline s f f' h (x ∷ xs) zero = ap (λ y. y ∷ map s xs) (h x)
changed_outline s f f' h (x ∷ xs) (suc i) =
    ap (map s) (at_place-cons x xs i f)
    ∙ (ap (λ v. s x ∷ v) (changed_outline s f f' h xs i)
    ∙ sym (at_place-cons (s x) (map s xs) i f'))

value_outline : {T : Type 0} (f : T → T) (v : Option T) → option_map something (option_map f v) ≡ option_map something v
value_outline f None = refl
value_outline f (Some x) = refl

-- a change of what a cell holds leaves its outline
pub kept_outline : {T : Type 0} (f : T → T) (cell : Cell T) → outline (cell_changed_by f cell) ≡ outline cell
kept_outline f cell = ap (λ (v : Option (Unit {0})). (let c : Cell (Unit {0}) = record { generation = cell.generation; value = v } in c)) (value_outline f cell.value)

-- one more cell that holds something, under its generation
pub lives_planted : (cells : List (Cell (Unit {0}))) (i gen g : ℕ) (c : Cell (Unit {0})) → slice_get cells i ≡ Some c → holds_under g (slice_get (at_place cells i (cell_planted gen tt)) i) ≡ (gen == g)
lives_planted cells i gen g c is =
    ap (holds_under g) (slice_get-at_place_same cells i (cell_planted gen tt)) ∙ ap (λ (v : Option (Cell (Unit {0}))). holds_under g (option_map (cell_planted gen tt) v)) is

none_lives : (g : ℕ) (slot : Option (Cell (Unit {0}))) → holds_under g (option_map cell_emptied slot) ≡ false
none_lives g None = refl
none_lives g (Some c) = refl

-- nothing lives in a cell that was emptied
pub lives_emptied : (cells : List (Cell (Unit {0}))) (i g : ℕ) → holds_under g (slice_get (at_place cells i cell_emptied) i) ≡ false
lives_emptied cells i g = ap (holds_under g) (slice_get-at_place_same cells i cell_emptied) ∙ none_lives g (slice_get cells i)

pub lives_beside : (cells : List (Cell (Unit {0}))) (at i g : ℕ) (f : Cell (Unit {0}) → Cell (Unit {0})) → i ≢ at → holds_under g (slice_get (at_place cells at f) i) ≡ holds_under g (slice_get cells i)
lives_beside cells at i g f ne = ap (holds_under g) (slice_get-at_place_other cells at i f ne)

-- What is held, where no cell changes.

pub outlines_same :
    (h h' : Held) → h'.channels ≡ h.channels → h'.rings ≡ h.rings → h'.pairs ≡ h.pairs → h'.shared ≡ h.shared → h'.addresses ≡ h.addresses → h'.regions ≡ h.regions → h'.windows ≡ h.windows
    → (k : Kind) → outlines h' k ≡ outlines h k
outlines_same h h' c q p s a r w kind.Pd = refl
outlines_same h h' c q p s a r w kind.Channel = ap (λ v. map outline v) c
outlines_same h h' c q p s a r w kind.Cq = ap (λ v. map outline v) q
outlines_same h h' c q p s a r w kind.Qp = ap (λ v. map outline v) p
outlines_same h h' c q p s a r w kind.Srq = ap (λ v. map outline v) s
outlines_same h h' c q p s a r w kind.Ah = ap (λ v. map outline v) a
outlines_same h h' c q p s a r w kind.Mr = ap (λ v. map outline v) r
outlines_same h h' c q p s a r w kind.Mw = ap (λ v. map outline v) w

pub outlines_pending : (h : Held) (c : ℕ) (now : Option Content) (k : Kind) → outlines (held_with_pending h c now) k ≡ outlines h k
outlines_pending h c now k = outlines_same h (held_with_pending h c now) refl refl refl refl refl refl refl k

outlines_slot : (h : Held) (slot : Slot) (now : Option Content) (k : Kind) → outlines (held_with_slot h slot now) k ≡ outlines h k
outlines_slot h (OfCall c) now k = outlines_same h (held_with_slot h (OfCall c) now) refl refl refl refl refl refl refl k
outlines_slot h (OfTeardown f) now k = outlines_same h (held_with_slot h (OfTeardown f) now) refl refl refl refl refl refl refl k

outlines_closed : (h : Held) (left : Option Content) (k : Kind) → outlines (held_closed h left) k ≡ outlines h k
outlines_closed h left k = outlines_same h (held_closed h left) refl refl refl refl refl refl refl k

-- Planting and taking out.

abbrev pub content_kind : Content → Kind
content_kind (content.Channel x) = kind.Channel
content_kind (content.Cq x) = kind.Cq
content_kind (content.Qp x) = kind.Qp
content_kind (content.Srq x) = kind.Srq
content_kind (content.Ah x) = kind.Ah
content_kind (content.Mr x) = kind.Mr
content_kind (content.Mw x) = kind.Mw

-- where the kind is this one, its cell is planted
abbrev pub planted_if : Bool → Spot → List (Cell (Unit {0})) → List (Cell (Unit {0}))
planted_if true spot cells = at_place cells spot.index (cell_planted spot.generation tt)
planted_if false spot cells = cells

pub outlines_planted : (h : Held) (spot : Spot) (c : Content) (k : Kind) → outlines (held_planted h spot (Some c)) k ≡ planted_if (is_kind (content_kind c) k) spot (outlines h k)
outlines_planted h spot (content.Channel x) kind.Pd = refl
outlines_planted h spot (content.Channel x) kind.Channel = changed_outline outline (cell_planted spot.generation x) (cell_planted spot.generation tt) (λ cell. refl) h.channels spot.index
outlines_planted h spot (content.Channel x) kind.Cq = refl
outlines_planted h spot (content.Channel x) kind.Qp = refl
outlines_planted h spot (content.Channel x) kind.Srq = refl
outlines_planted h spot (content.Channel x) kind.Ah = refl
outlines_planted h spot (content.Channel x) kind.Mr = refl
outlines_planted h spot (content.Channel x) kind.Mw = refl
outlines_planted h spot (content.Cq x) kind.Pd = refl
outlines_planted h spot (content.Cq x) kind.Channel = refl
outlines_planted h spot (content.Cq x) kind.Cq = changed_outline outline (cell_planted spot.generation (ring_linked spot x)) (cell_planted spot.generation tt) (λ cell. refl) h.rings spot.index
outlines_planted h spot (content.Cq x) kind.Qp = refl
outlines_planted h spot (content.Cq x) kind.Srq = refl
outlines_planted h spot (content.Cq x) kind.Ah = refl
outlines_planted h spot (content.Cq x) kind.Mr = refl
outlines_planted h spot (content.Cq x) kind.Mw = refl
outlines_planted h spot (content.Qp x) kind.Pd = refl
outlines_planted h spot (content.Qp x) kind.Channel = refl
outlines_planted h spot (content.Qp x) kind.Cq = refl
outlines_planted h spot (content.Qp x) kind.Qp = changed_outline outline (cell_planted spot.generation (pair_linked spot x)) (cell_planted spot.generation tt) (λ cell. refl) h.pairs spot.index
outlines_planted h spot (content.Qp x) kind.Srq = refl
outlines_planted h spot (content.Qp x) kind.Ah = refl
outlines_planted h spot (content.Qp x) kind.Mr = refl
outlines_planted h spot (content.Qp x) kind.Mw = refl
outlines_planted h spot (content.Srq x) kind.Pd = refl
outlines_planted h spot (content.Srq x) kind.Channel = refl
outlines_planted h spot (content.Srq x) kind.Cq = refl
outlines_planted h spot (content.Srq x) kind.Qp = refl
outlines_planted h spot (content.Srq x) kind.Srq = changed_outline outline (cell_planted spot.generation (shared_named spot x)) (cell_planted spot.generation tt) (λ cell. refl) h.shared spot.index
outlines_planted h spot (content.Srq x) kind.Ah = refl
outlines_planted h spot (content.Srq x) kind.Mr = refl
outlines_planted h spot (content.Srq x) kind.Mw = refl
outlines_planted h spot (content.Ah x) kind.Pd = refl
outlines_planted h spot (content.Ah x) kind.Channel = refl
outlines_planted h spot (content.Ah x) kind.Cq = refl
outlines_planted h spot (content.Ah x) kind.Qp = refl
outlines_planted h spot (content.Ah x) kind.Srq = refl
outlines_planted h spot (content.Ah x) kind.Ah = changed_outline outline (cell_planted spot.generation (address_named spot x)) (cell_planted spot.generation tt) (λ cell. refl) h.addresses spot.index
outlines_planted h spot (content.Ah x) kind.Mr = refl
outlines_planted h spot (content.Ah x) kind.Mw = refl
outlines_planted h spot (content.Mr x) kind.Pd = refl
outlines_planted h spot (content.Mr x) kind.Channel = refl
outlines_planted h spot (content.Mr x) kind.Cq = refl
outlines_planted h spot (content.Mr x) kind.Qp = refl
outlines_planted h spot (content.Mr x) kind.Srq = refl
outlines_planted h spot (content.Mr x) kind.Ah = refl
outlines_planted h spot (content.Mr x) kind.Mr = changed_outline outline (cell_planted spot.generation (region_named spot x)) (cell_planted spot.generation tt) (λ cell. refl) h.regions spot.index
outlines_planted h spot (content.Mr x) kind.Mw = refl
outlines_planted h spot (content.Mw x) kind.Pd = refl
outlines_planted h spot (content.Mw x) kind.Channel = refl
outlines_planted h spot (content.Mw x) kind.Cq = refl
outlines_planted h spot (content.Mw x) kind.Qp = refl
outlines_planted h spot (content.Mw x) kind.Srq = refl
outlines_planted h spot (content.Mw x) kind.Ah = refl
outlines_planted h spot (content.Mw x) kind.Mr = refl
outlines_planted h spot (content.Mw x) kind.Mw = changed_outline outline (cell_planted spot.generation (window_named spot x)) (cell_planted spot.generation tt) (λ cell. refl) h.windows spot.index

abbrev pub emptied_if : Bool → ℕ → List (Cell (Unit {0})) → List (Cell (Unit {0}))
emptied_if true at cells = at_place cells at cell_emptied
emptied_if false at cells = cells

outlines_without : (h : Held) (at : ℕ) (j k : Kind) → outlines (held_without h at j) k ≡ emptied_if (is_kind j k) at (outlines h k)
outlines_without h at kind.Pd kind.Pd = refl
outlines_without h at kind.Pd kind.Channel = refl
outlines_without h at kind.Pd kind.Cq = refl
outlines_without h at kind.Pd kind.Qp = refl
outlines_without h at kind.Pd kind.Srq = refl
outlines_without h at kind.Pd kind.Ah = refl
outlines_without h at kind.Pd kind.Mr = refl
outlines_without h at kind.Pd kind.Mw = refl
outlines_without h at kind.Channel kind.Pd = refl
outlines_without h at kind.Channel kind.Channel = changed_outline outline cell_emptied cell_emptied (λ cell. refl) h.channels at
outlines_without h at kind.Channel kind.Cq = refl
outlines_without h at kind.Channel kind.Qp = refl
outlines_without h at kind.Channel kind.Srq = refl
outlines_without h at kind.Channel kind.Ah = refl
outlines_without h at kind.Channel kind.Mr = refl
outlines_without h at kind.Channel kind.Mw = refl
outlines_without h at kind.Cq kind.Pd = refl
outlines_without h at kind.Cq kind.Channel = refl
outlines_without h at kind.Cq kind.Cq = changed_outline outline cell_emptied cell_emptied (λ cell. refl) h.rings at
outlines_without h at kind.Cq kind.Qp = refl
outlines_without h at kind.Cq kind.Srq = refl
outlines_without h at kind.Cq kind.Ah = refl
outlines_without h at kind.Cq kind.Mr = refl
outlines_without h at kind.Cq kind.Mw = refl
outlines_without h at kind.Qp kind.Pd = refl
outlines_without h at kind.Qp kind.Channel = refl
outlines_without h at kind.Qp kind.Cq = refl
outlines_without h at kind.Qp kind.Qp = changed_outline outline cell_emptied cell_emptied (λ cell. refl) h.pairs at
outlines_without h at kind.Qp kind.Srq = refl
outlines_without h at kind.Qp kind.Ah = refl
outlines_without h at kind.Qp kind.Mr = refl
outlines_without h at kind.Qp kind.Mw = refl
outlines_without h at kind.Srq kind.Pd = refl
outlines_without h at kind.Srq kind.Channel = refl
outlines_without h at kind.Srq kind.Cq = refl
outlines_without h at kind.Srq kind.Qp = refl
outlines_without h at kind.Srq kind.Srq = changed_outline outline cell_emptied cell_emptied (λ cell. refl) h.shared at
outlines_without h at kind.Srq kind.Ah = refl
outlines_without h at kind.Srq kind.Mr = refl
outlines_without h at kind.Srq kind.Mw = refl
outlines_without h at kind.Ah kind.Pd = refl
outlines_without h at kind.Ah kind.Channel = refl
outlines_without h at kind.Ah kind.Cq = refl
outlines_without h at kind.Ah kind.Qp = refl
outlines_without h at kind.Ah kind.Srq = refl
outlines_without h at kind.Ah kind.Ah = changed_outline outline cell_emptied cell_emptied (λ cell. refl) h.addresses at
outlines_without h at kind.Ah kind.Mr = refl
outlines_without h at kind.Ah kind.Mw = refl
outlines_without h at kind.Mr kind.Pd = refl
outlines_without h at kind.Mr kind.Channel = refl
outlines_without h at kind.Mr kind.Cq = refl
outlines_without h at kind.Mr kind.Qp = refl
outlines_without h at kind.Mr kind.Srq = refl
outlines_without h at kind.Mr kind.Ah = refl
outlines_without h at kind.Mr kind.Mr = changed_outline outline cell_emptied cell_emptied (λ cell. refl) h.regions at
outlines_without h at kind.Mr kind.Mw = refl
outlines_without h at kind.Mw kind.Pd = refl
outlines_without h at kind.Mw kind.Channel = refl
outlines_without h at kind.Mw kind.Cq = refl
outlines_without h at kind.Mw kind.Qp = refl
outlines_without h at kind.Mw kind.Srq = refl
outlines_without h at kind.Mw kind.Ah = refl
outlines_without h at kind.Mw kind.Mr = refl
outlines_without h at kind.Mw kind.Mw = changed_outline outline cell_emptied cell_emptied (λ cell. refl) h.windows at

pub outlines_taken : (h : Held) (slot : Slot) (j : Kind) (at : ℕ) (k : Kind) → outlines (held_moved h (move.Takes slot j at)) k ≡ emptied_if (is_kind j k) at (outlines h k)
outlines_taken h slot j at k = outlines_slot (held_without h at j) slot (held_at h at j) k ∙ outlines_without h at j k

-- Moves that leave every cell's outline.

pub outlines_buried : (h : Held) (slot : Slot) (k : Kind) → outlines (held_moved h (move.Buries slot)) k ≡ outlines h k
outlines_buried h slot k = outlines_closed (held_with_slot h slot None) (held_in_slot h slot) k ∙ outlines_slot h slot None k

outlines_modified : (h : Held) (at to : ℕ) (attrs : QpAttrs) (k : Kind) → outlines (held_moved h (move.Modifies at to attrs)) k ≡ outlines h k
outlines_modified h at to attrs kind.Pd = refl
outlines_modified h at to attrs kind.Channel = refl
outlines_modified h at to attrs kind.Cq = refl
outlines_modified h at to attrs kind.Qp = map-at_place outline h.pairs at (cell_changed_by (pair_modified (qp_state_of to) attrs)) (kept_outline (pair_modified (qp_state_of to) attrs))
outlines_modified h at to attrs kind.Srq = refl
outlines_modified h at to attrs kind.Ah = refl
outlines_modified h at to attrs kind.Mr = refl
outlines_modified h at to attrs kind.Mw = refl

outlines_bound : (h : Held) (window region offset length access : ℕ) (k : Kind) → outlines (held_moved h (move.Binds window region offset length access)) k ≡ outlines h k
outlines_bound h window region offset length access kind.Pd = refl
outlines_bound h window region offset length access kind.Channel = refl
outlines_bound h window region offset length access kind.Cq = refl
outlines_bound h window region offset length access kind.Qp = refl
outlines_bound h window region offset length access kind.Srq = refl
outlines_bound h window region offset length access kind.Ah = refl
outlines_bound h window region offset length access kind.Mr = refl
outlines_bound h window region offset length access kind.Mw =
    let f = window_bound (Some (bound_over (region_id (value_of_cell h.regions region)) region offset length access)) in
    map-at_place outline h.windows window (cell_changed_by f) (kept_outline f)

outlines_unbound : (h : Held) (window : ℕ) (k : Kind) → outlines (held_moved h (move.Unbinds window)) k ≡ outlines h k
outlines_unbound h window kind.Pd = refl
outlines_unbound h window kind.Channel = refl
outlines_unbound h window kind.Cq = refl
outlines_unbound h window kind.Qp = refl
outlines_unbound h window kind.Srq = refl
outlines_unbound h window kind.Ah = refl
outlines_unbound h window kind.Mr = refl
outlines_unbound h window kind.Mw = map-at_place outline h.windows window (cell_changed_by (window_bound None)) (kept_outline (window_bound None))

modify_outlines : (h : Held) (at : Option ℕ) (to : ℕ) (attrs : QpAttrs) (k : Kind) → outlines (held_moved h (modify_move at to attrs)) k ≡ outlines h k
modify_outlines h None to attrs k = refl
modify_outlines h (Some at) to attrs k = outlines_modified h at to attrs k

bind_outlines : (h : Held) (window region : Option ℕ) (offset length access : ℕ) (k : Kind) → outlines (held_moved h (bind_move window region offset length access)) k ≡ outlines h k
bind_outlines h None region offset length access k = refl
bind_outlines h (Some window) None offset length access k = refl
bind_outlines h (Some window) (Some region) offset length access k = outlines_bound h window region offset length access k

unbind_outlines : (h : Held) (window : Option ℕ) (k : Kind) → outlines (held_moved h (unbind_move window)) k ≡ outlines h k
unbind_outlines h None k = refl
unbind_outlines h (Some window) k = outlines_unbound h window k

act_outlines : (h : Held) (m : State) (call : InFlight) (what : Act) (k : Kind) → outlines (held_moved h (act_move m call what)) k ≡ outlines h k
act_outlines h m call (Modify to attrs) k = modify_outlines h (cell_seen m 0 call) to attrs k
act_outlines h m call Query k = refl
act_outlines h m call (Bind offset length access) k = bind_outlines h (cell_seen m 0 call) (cell_seen m 1 call) offset length access k
act_outlines h m call (Unbind offset length access) k = unbind_outlines h (cell_seen m 0 call) k
act_outlines h m call Async k = refl

pub role_outlines : (h : Held) (m : State) (call : InFlight) (r : Role) (k : Kind) → outlines (held_moved h (role_move m call r)) k ≡ outlines h k
role_outlines h m call (Creates made) k = refl
role_outlines h m call (Destroys asked) k = refl
role_outlines h m call (Acts what) k = act_outlines h m call what k

bury_if_outlines : (h : Held) (slot : Slot) (b : Bool) (k : Kind) → outlines (held_moved h (if b then move.Buries slot else move.Stays)) k ≡ outlines h k
bury_if_outlines h slot true k = outlines_buried h slot k
bury_if_outlines h slot false k = refl

pub bury_outlines : (h : Held) (slot : Slot) (x : Object) (k : Kind) → outlines (held_moved h (bury_found slot x)) k ≡ outlines h k
bury_outlines h slot x k = bury_if_outlines h slot (is_doomed x.phase) k

unless_outlines : (h h' : Held) (r : Option Errno) (k : Kind) → outlines h' k ≡ outlines h k → outlines (held_unless h r h') k ≡ outlines h k
unless_outlines h h' None k same = same
unless_outlines h h' (Some e) k same = refl

pub brought_outlines : (h : Held) (e : Entry) (k : Kind) → outlines (held_brought h e) k ≡ outlines h k
brought_outlines h (Open c f d a) k = refl
brought_outlines h (Enter c f request a) k = unless_outlines h (held_with_pending h c (content_for request)) (refusal_in a) k (outlines_pending h c (content_for request) k)
brought_outlines h (Step c w o found a) k = refl
brought_outlines h (Unplug d) k = refl
brought_outlines h (Tear f by) k = refl
brought_outlines h (Kill o) k = refl
brought_outlines h (Gone o kept) k = refl
brought_outlines h (Dissociated f) k = refl
brought_outlines h (Closed f) k = refl
