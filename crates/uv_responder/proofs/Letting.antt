-- What is written is let: a piece of an accepted write is no longer than the range that was tested.
use Rattle.std.proofs.Common.{◌≡◌, ℕ, zero, suc, ◌≤◌, Bool, true, false, ◌||◌, ◌&&◌, nat_le, nat_lt, List, [], ◌∷◌, length, Option, None, Some, refl, ap, arith}
use Rattle.std.specs.FinMap as map
use Rattle.std.specs.Prelude.{◌==◌, if◌then◌else◌}
use Rattle.uv_num.specs.declared.limits.TheConstants.{WORK_BYTES}
use Rattle.uv_packet.specs.Packets.{Content}
use Rattle.uv_qp.specs.declared.state.Names.{Names}
use Rattle.uv_qp.specs.Pairs.{Paired, mtu_of}
use Rattle.uv_region.specs.declared.action.Access.{Access}
use Rattle.uv_region.specs.declared.action.Access.TheVariants.{RemoteWrite}
use Rattle.uv_region.specs.declared.action.Window.{Window}
use Rattle.uv_region.specs.declared.piece.Piece.{Piece}
use Rattle.uv_region.specs.Refusals.{passes}
use Rattle.uv_region.specs.Laws.{AllowedMayWriteAll}
use Rattle.uv_region.specs.Lent.{Lent, ReachedRegion, demanded, lent_allows, reached_allows}
use Rattle.uv_region.specs.Several.{lent_allows_all, with_rooms_for, writes_of, MayWriteAll}
use Rattle.uv_wr.specs.Works.{Receiving}
use Rattle.uv_responder.specs.declared.judging.Judgement.{Judgement}
use Rattle.uv_responder.specs.declared.judging.Judgement.TheVariants as judgement
use Rattle.uv_responder.specs.declared.part.Asks.{Asks}
use Rattle.uv_responder.specs.declared.part.Asks.TheVariants.{Sends, Writes, Reads, Invalidates}
use Rattle.uv_responder.specs.declared.part.Part.{Part}
use Rattle.uv_responder.specs.Judging.{judgement_of, lets_act, reth_of}
use Rattle.uv_responder.specs.Passing.{Accepts}
use Rattle.uv_responder.specs.Plans.{kind_of_write, pieces_for, pieces_written, row_plan, written_range}
use Rattle.uv_responder.proofs.Passed.{accepted}
use Rattle.uv_responder.proofs.Planned.{part_with}

abbrev range : ℕ → ℕ → ℕ → Piece
range key offset size = record { key = key; offset = offset; length = size }

front_passes : (kind : Access) (key offset m n domain : ℕ) (w : Option Window) → n ≤ m
    → passes w (demanded kind (range key offset m) domain w) ≡ true → passes w (demanded kind (range key offset n) domain w) ≡ true
front_passes kind key offset m n domain None less h = refl
front_passes kind key offset m n domain (Some w) less h = grind (arith, less, h)

front_allowed : (kind : Access) (key offset m n domain : ℕ) (o : Option ReachedRegion) → n ≤ m
    → reached_allows o kind (range key offset m) domain ≡ true → reached_allows o kind (range key offset n) domain ≡ true
front_allowed kind key offset m n domain None less h = h
front_allowed kind key offset m n domain (Some r) less h = grind (arith, less, h, front_passes kind key offset m n domain r.1 less)

or_by : (n : ℕ) (a : Bool) → (1 ≤ n → a ≡ true) → ((n == 0) || a) ≡ true
or_by zero a h = refl
or_by (suc n) a h = grind (arith, h (omega arith))

some_by : (n : ℕ) (b : Bool) → 1 ≤ n → ((n == 0) || b) ≡ true → b ≡ true
some_by n b some h = grind (arith, some, h)

-- the front of a range that lets an action be made does so too
front_let : (lent : Lent) (kind : Access) (key offset m n domain : ℕ) → n ≤ m → lets_act lent kind domain (range key offset m) ≡ true → lets_act lent kind domain (range key offset n) ≡ true
front_let lent kind key offset m n domain less h =
    or_by n (lent_allows lent kind (range key offset n) domain) (λ some. front_allowed kind key offset m n domain (map.get lent key) less (some_by m _ (omega (arith, some, less)) h))

size_within : (last : Bool) (named mtu size : ℕ)
    → (nat_le named WORK_BYTES && (if last then named == size else nat_lt mtu named)) ≡ true
    → (if last then (nat_le size mtu && (true || nat_lt 0 size)) else (size == mtu)) ≡ true → size ≤ named
size_within true named mtu size h k = grind (arith, h, k)
size_within false named mtu size h k = grind (arith, h, k)

-- one piece, if it has bytes

let_with : (n : ℕ) (b : Bool) → (n == 0) ≡ false → ((n == 0) || b) ≡ true → b ≡ true
let_with n b some h = grind (arith, some, h)

one_let : (lent : Lent) (kind : Access) (domain : ℕ) (piece : Piece) (b : Bool) → (piece.length == 0) ≡ b → lets_act lent kind domain piece ≡ true → lent_allows_all lent kind domain (if b then [] else piece ∷ []) ≡ true
one_let lent kind domain piece true is h = refl
one_let lent kind domain piece false is h = ap (λ b. b && true) (let_with piece.length (lent_allows lent kind piece domain) is h)

write_let : (first last imm : Bool) (c : Content) (p : Paired) (lent : Lent) (next : Option Receiving) → Accepts (part_with Writes first last imm) c p lent next
    → lets_act lent RemoteWrite p.names.domain (written_range (part_with Writes first last imm) c p.responder) ≡ true
write_let true last imm c p lent next k =
    front_let lent RemoteWrite (reth_of c).key (reth_of c).at (reth_of c).length (length c.payload) p.names.domain
    (size_within last (reth_of c).length (mtu_of p) (length c.payload) k.passes.long k.passes.sized) k.reaches
write_let false last imm c p lent next k = k.reaches

-- what an accepted packet writes may be written
accept_writes : (asks : Asks) (first last imm : Bool) (c : Content) (p : Paired) (lent : Lent) (next : Option Receiving) → Accepts (part_with asks first last imm) c p lent next
    → lent_allows_all lent (kind_of_write asks) p.names.domain (pieces_for (part_with asks first last imm) asks c p next) ≡ true
accept_writes Sends first last imm c p lent next k = k.placed refl
accept_writes Writes first last imm c p lent next k =
    one_let lent RemoteWrite p.names.domain (written_range (part_with Writes first last imm) c p.responder) ((written_range (part_with Writes first last imm) c p.responder).length == 0) refl (write_let first last imm c p lent next k)
accept_writes Reads first last imm c p lent next k = refl
accept_writes Invalidates first last imm c p lent next k = refl

-- the payload may be written to these pieces
abbrev pub MayWrite : Access → Names → Lent → List Piece → List ℕ → Type 0
MayWrite kind names lent found bytes = MayWriteAll (with_rooms_for lent found) kind names.object names.domain (writes_of found bytes)

pub may_write : AllowedMayWriteAll → (v : Judgement) (part : Part) (c : Content) (p : Paired) (lent : Lent) (next : Option Receiving) → judgement_of part c p lent next ≡ v
    → MayWrite (kind_of_write part.asks) p.names lent (pieces_written (row_plan v part c p) part c p next) c.payload
may_write law judgement.Duplicate part c p lent next e = tt
may_write law judgement.Reread part c p lent next e = tt
may_write law judgement.Stale part c p lent next e = tt
may_write law judgement.Ahead part c p lent next e = tt
may_write law judgement.Busy part c p lent next e = tt
may_write law judgement.Invalid part c p lent next e = tt
may_write law judgement.NotReady part c p lent next e = tt
may_write law judgement.Denied part c p lent next e = tt
may_write law judgement.TooLong part c p lent next e = tt
may_write law judgement.Unplaced part c p lent next e = tt
may_write law judgement.Accepted part c p lent next e =
    law lent (kind_of_write part.asks) (pieces_for part part.asks c p next) c.payload p.names.object p.names.domain
    (accept_writes part.asks part.first part.last part.imm c p lent next (accepted part c p lent next e))
