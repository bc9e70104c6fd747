-- Actions that pieces let be made may be made one after another, once there is room for all.
use Rattle.std.proofs.Common.{◌≡◌, ℕ, suc, ◌≤◌, Bool, true, false, cond, ◌&&◌, List, [], ◌∷◌, length, take, drop, Option, None, Some, refl, sym, ◌∙◌, ap, subst, arith}
use Rattle.std.proofs.lemmas.Cmp.{nat_cmp_total, tied_itself}
use Rattle.std.specs.FinMap as map
use Rattle.std.specs.Ordering.{nat_cmp, eq_by_cmp, is_eq}
use Rattle.std.specs.Prelude.{max}
use Rattle.uv_region.specs.declared.action.Access.{Access}
use Rattle.uv_region.specs.declared.piece.Piece.{Piece}
use Rattle.uv_region.specs.Actions.{PlainAction}
use Rattle.uv_region.specs.Acting.{after_action, spent}
use Rattle.uv_region.specs.Lent.{Lent, MayAct, ReachedRegion, acting, lent_after, lent_allows, lent_with_room, lent_with_rooms, reached_allows, via, with_acted, with_room}
use Rattle.uv_region.specs.Several.{lent_allows_all, piece_reading, with_rooms_for, writes_of, MayReadAll, MayWriteAll}
use Rattle.uv_region.proofs.Lending.{tied_same}
use Rattle.uv_region.proofs.Reaching.{none_is, room_untested}

-- a region that is reached lets an action be made and has room for so many
abbrev RoomAt : Option ReachedRegion → Access → Piece → ℕ → ℕ → Type 0
RoomAt None kind piece domain n = ⊥
RoomAt (Some r) kind piece domain n = (reached_allows (Some r) kind piece domain ≡ true) × (n ≤ r.0.spare)

abbrev HasRoom : Access → ℕ → Lent → ℕ → Piece → Type 0
HasRoom kind domain lent n piece = RoomAt (map.get lent piece.key) kind piece domain n

abbrev AllRoom : Access → ℕ → Lent → ℕ → List Piece → Type 0
AllRoom kind domain lent n [] = Unit {0}
AllRoom kind domain lent n (piece ∷ pieces) = HasRoom kind domain lent n piece × AllRoom kind domain lent n pieces

-- an action on what has room for it
may_by : (lent : Lent) (kind : Access) (piece : Piece) (bytes : List ℕ) (qp domain n : ℕ) (o : Option ReachedRegion) → map.get lent piece.key ≡ o → RoomAt o kind piece domain (suc n) → MayAct lent piece.key (acting kind piece bytes qp domain)
may_by lent kind piece bytes qp domain n None e h = absurd h
may_by lent kind piece bytes qp domain n (Some r) e h = record { reached = r; there = e; allowed = none_is _ h.0; room = omega (arith, h.1) }

less_room : (o : Option ReachedRegion) (kind : Access) (piece : Piece) (domain n : ℕ) → RoomAt o kind piece domain (suc n) → RoomAt o kind piece domain n
less_room None kind piece domain n h = h
less_room (Some r) kind piece domain n h = (h.0, omega (arith, h.1))

-- what a change at a key leaves at each

at_key : (b : Bool) (now was : Option ReachedRegion) (kind : Access) (piece : Piece) (domain n m : ℕ)
    → (b ≡ true → RoomAt was kind piece domain n → RoomAt now kind piece domain m) → m ≤ n → RoomAt was kind piece domain n → RoomAt (cond b now was) kind piece domain m
at_key true now was kind piece domain n m one less h = one refl h
at_key false now None kind piece domain n m one less h = h
at_key false now (Some r) kind piece domain n m one less h = (h.0, omega (arith, h.1, less))

-- the region of one key was replaced
replaced_room : (lent : Lent) (key : ℕ) (now was : ReachedRegion) (kind : Access) (piece : Piece) (domain n m : ℕ) → map.get lent key ≡ Some was
    → (RoomAt (Some was) kind piece domain n → RoomAt (Some now) kind piece domain m) → m ≤ n
    → HasRoom kind domain lent n piece → HasRoom kind domain (map.insert lent key now) m piece
replaced_room lent key now was kind piece domain n m there one less h =
    let P : Option ReachedRegion → Type 0 = λ o. RoomAt o kind piece domain m in
    let Q : Option ReachedRegion → Type 0 = λ o. RoomAt o kind piece domain n in
    subst P (sym (map.get-insert nat_cmp_total lent key now piece.key))
    (at_key (eq_by_cmp nat_cmp piece.key key) (Some now) (map.get lent piece.key) kind piece domain n m
    (λ e k. one (subst Q (ap (λ x. map.get lent x) (tied_same piece.key key e) ∙ there) k)) less h)

-- room that is taken leaves what there was
room_stays : (lent : Lent) (key more : ℕ) (o : Option ReachedRegion) (kind : Access) (piece : Piece) (domain n : ℕ) → map.get lent key ≡ o
    → HasRoom kind domain lent n piece → HasRoom kind domain (with_room lent key more o) n piece
room_stays lent key more None kind piece domain n there h = h
room_stays lent key more (Some r) kind piece domain n there h =
    replaced_room lent key (record r.0 { spare = max r.0.spare more }, r.1) r kind piece domain n n there (λ k. (k.0, omega (arith, k.1))) (omega arith) h

-- room is there where it was taken
room_taken : (lent : Lent) (piece : Piece) (more : ℕ) (o : Option ReachedRegion) (kind : Access) (domain : ℕ) → map.get lent piece.key ≡ o
    → reached_allows o kind piece domain ≡ true → HasRoom kind domain (with_room lent piece.key more o) more piece
room_taken lent piece more None kind domain there h = cc
room_taken lent piece more (Some r) kind domain there h =
    let v : ReachedRegion = (record r.0 { spare = max r.0.spare more }, r.1) in
    let P : Option ReachedRegion → Type 0 = λ o. RoomAt o kind piece domain more in
    subst P (sym (map.get-insert nat_cmp_total lent piece.key v piece.key ∙ ap (λ b. cond b (Some v) (map.get lent piece.key)) (ap is_eq (tied_itself nat_cmp_total piece.key))))
    (h, omega arith)

-- an action leaves room for one less
room_spent : (lent : Lent) (key : ℕ) (a : PlainAction) (o : Option ReachedRegion) (kind : Access) (piece : Piece) (domain n : ℕ) → map.get lent key ≡ o
    → HasRoom kind domain lent (suc n) piece → HasRoom kind domain (with_acted lent key a o) n piece
room_spent lent key a None kind piece domain n there h = less_room (map.get lent piece.key) kind piece domain n h
room_spent lent key a (Some r) kind piece domain n there h =
    replaced_room lent key (spent (after_action r.0 (via r.1 a)), r.1) r kind piece domain (suc n) n there (λ k. (k.0, omega (arith, k.1))) (omega arith) h

all_spent : (lent : Lent) (key : ℕ) (a : PlainAction) (kind : Access) (domain n : ℕ) (pieces : List Piece) → AllRoom kind domain lent (suc n) pieces → AllRoom kind domain (lent_after lent key a) n pieces
all_spent lent key a kind domain n [] h = tt
all_spent lent key a kind domain n (piece ∷ pieces) h =
    (room_spent lent key a (map.get lent key) kind piece domain n refl h.0, all_spent lent key a kind domain n pieces h.1)

-- what has room for all may be written, and read

write_each : (lent : Lent) (kind : Access) (qp domain : ℕ) (pieces : List Piece) (bytes : List ℕ) → AllRoom kind domain lent (length pieces) pieces → MayWriteAll lent kind qp domain (writes_of pieces bytes)
write_each lent kind qp domain [] bytes h = tt
write_each lent kind qp domain (piece ∷ pieces) bytes h =
    let a : PlainAction = acting kind piece (take piece.length bytes) qp domain in (
      may_by lent kind piece (take piece.length bytes) qp domain (length pieces) (map.get lent piece.key) refl h.0,
      write_each (lent_after lent piece.key a) kind qp domain pieces (drop piece.length bytes) (all_spent lent piece.key a kind domain (length pieces) pieces h.1),
    )

read_each : (lent : Lent) (kind : Access) (qp domain : ℕ) (pieces : List Piece) → AllRoom kind domain lent (length pieces) pieces → MayReadAll lent kind qp domain pieces
read_each lent kind qp domain [] h = tt
read_each lent kind qp domain (piece ∷ pieces) h =
    let a : PlainAction = piece_reading kind qp domain piece in (
      may_by lent kind piece _ qp domain (length pieces) (map.get lent piece.key) refl h.0,
      read_each (lent_after lent piece.key a) kind qp domain pieces (all_spent lent piece.key a kind domain (length pieces) pieces h.1),
    )

-- the room of all pieces

rooms_stay : (lent : Lent) (pieces : List Piece) (more : ℕ) (kind : Access) (piece : Piece) (domain n : ℕ) → HasRoom kind domain lent n piece → HasRoom kind domain (lent_with_rooms lent pieces more) n piece
rooms_stay lent [] more kind piece domain n h = h
rooms_stay lent (x ∷ xs) more kind piece domain n h =
    rooms_stay (lent_with_room lent x.key more) xs more kind piece domain n (room_stays lent x.key more (map.get lent x.key) kind piece domain n refl h)

both : (a b : Bool) → a && b ≡ true → (a ≡ true) × (b ≡ true)
both true b h = (refl, h)
both false b h = cc

all_untested : (lent : Lent) (key more : ℕ) (kind : Access) (domain : ℕ) (pieces : List Piece) → lent_allows_all lent kind domain pieces ≡ true → lent_allows_all (lent_with_room lent key more) kind domain pieces ≡ true
all_untested lent key more kind domain [] h = refl
all_untested lent key more kind domain (piece ∷ pieces) h =
    let (one, rest) = both (lent_allows lent kind piece domain) (lent_allows_all lent kind domain pieces) h in
    ap (λ b. b && lent_allows_all (lent_with_room lent key more) kind domain pieces) (room_untested lent key more kind piece domain ∙ one)
    ∙ all_untested lent key more kind domain pieces rest

all_room : (lent : Lent) (kind : Access) (domain more : ℕ) (pieces : List Piece) → lent_allows_all lent kind domain pieces ≡ true → AllRoom kind domain (lent_with_rooms lent pieces more) more pieces
all_room lent kind domain more [] h = tt
all_room lent kind domain more (piece ∷ pieces) h =
    let (one, rest) = both (lent_allows lent kind piece domain) (lent_allows_all lent kind domain pieces) h in (
      rooms_stay (lent_with_room lent piece.key more) pieces more kind piece domain more (room_taken lent piece more (map.get lent piece.key) kind domain refl one),
      all_room (lent_with_room lent piece.key more) kind domain more pieces (all_untested lent piece.key more kind domain pieces rest),
    )

pub may_write_all : (lent : Lent) (kind : Access) (pieces : List Piece) (bytes : List ℕ) (qp domain : ℕ) → lent_allows_all lent kind domain pieces ≡ true → MayWriteAll (with_rooms_for lent pieces) kind qp domain (writes_of pieces bytes)
may_write_all lent kind pieces bytes qp domain h =
    write_each (with_rooms_for lent pieces) kind qp domain pieces bytes (all_room lent kind domain (length pieces) pieces h)

pub may_read_all : (lent : Lent) (kind : Access) (pieces : List Piece) (qp domain : ℕ) → lent_allows_all lent kind domain pieces ≡ true → MayReadAll (with_rooms_for lent pieces) kind qp domain pieces
may_read_all lent kind pieces qp domain h =
    read_each (with_rooms_for lent pieces) kind qp domain pieces (all_room lent kind domain (length pieces) pieces h)
