-- Laws of regions and journals: what whoever keeps them can rely on.
use Rattle.std.specs.Prelude.{◌≡◌, ◌≤◌, ◌<◌, ◌+◌, ◌⊎◌, ◌↔◌, ℕ, true, false, List, length, slice_get, Option, None, Some}
use Rattle.uv_region.specs.declared.action.Access.{Access}
use Rattle.uv_region.specs.declared.action.Why.{Why}
use Rattle.uv_region.specs.declared.action.Why.TheVariants as why
use Rattle.uv_region.specs.declared.piece.Piece.{Piece}
use Rattle.uv_region.specs.Actions.{PlainAction, is_read, CanBeMade}
use Rattle.uv_region.specs.Refusals.{Terms, has_its_right, passes, IsAllowed, demand_of, first_refusal}
use Rattle.uv_region.specs.Registered.{Registered, terms_of}
use Rattle.uv_region.specs.Replay.{standing, effect, replay_of}
use Rattle.uv_region.specs.Journals.{PlainJournal, journal_of, IsJournal, IsKept, GoesOn}
use Rattle.uv_region.specs.Acting.{after_action}
use Rattle.uv_region.specs.Lent.{Lent, acting, lent_allows, lent_after, lent_with_room, lent_with_rooms, MayAct, StaysKnown}
use Rattle.uv_region.specs.Several.{lent_allows_all, lent_read, lent_written, with_rooms_for, writes_of, MayReadAll, MayWriteAll, PlainWrite}
use Rattle.uv_region.specs.GoingOn.{LentGoesOn}

-- An action that is allowed lies inside the region, in unbounded numbers, has its right and the region's domain, and
-- passes its window; and one of which all this is true is allowed.

pub record PassesAll (t : Terms) (a : PlainAction) : Type 0 where
  pub bounds : a.offset + a.length ≤ t.length
  pub right : has_its_right t.rights a.kind a.window ≡ true
  pub domain : t.domain ≡ a.domain
  pub window : passes a.window (demand_of a) ≡ true

abbrev pub AllowedPassesAll : Type 0
AllowedPassesAll = (t : Terms) (a : PlainAction) → IsAllowed t a ↔ PassesAll t a

-- The tests are made in the order of bounds, right, domain and window: a test refuses only what each test before it
-- lets pass.

abbrev pub LiesInside : Terms → PlainAction → Type 0
LiesInside t a = a.offset + a.length ≤ t.length

abbrev pub HasItsRight : Terms → PlainAction → Type 0
HasItsRight t a = has_its_right t.rights a.kind a.window ≡ true

abbrev pub RefusedFor : Terms → PlainAction → Option Why → Type 0
RefusedFor t a None = PassesAll t a
RefusedFor t a (Some why.Bounds) = LiesInside t a → ⊥
RefusedFor t a (Some why.Right) = LiesInside t a × (has_its_right t.rights a.kind a.window ≡ false)
RefusedFor t a (Some why.Domain) = LiesInside t a × HasItsRight t a × (t.domain ≡ a.domain → ⊥)
RefusedFor t a (Some why.Window) = LiesInside t a × HasItsRight t a × (t.domain ≡ a.domain) × (passes a.window (demand_of a) ≡ false)

abbrev pub RefusedInOrder : Type 0
RefusedInOrder = (t : Terms) (a : PlainAction) → RefusedFor t a (first_refusal t a)

-- The tests look neither at the bytes of an action nor at who acts.

abbrev pub TestsLookAtNoBytes : Type 0
TestsLookAtNoBytes =
    (t : Terms) (a : PlainAction) (bytes : List ℕ) (qp : ℕ) → first_refusal t (record a { bytes = bytes; qp = qp }) ≡ first_refusal t a

-- An action touches no byte outside its place.

abbrev pub OutsideStays : Type 0
OutsideStays =
    (a : PlainAction) (bytes : List ℕ) (n : ℕ) → CanBeMade a → a.offset + a.length ≤ length bytes
    → (n < a.offset) ⊎ (a.offset + a.length ≤ n) → slice_get (effect a bytes) n ≡ slice_get bytes n

-- What was written stands there.

abbrev pub WrittenStands : Type 0
WrittenStands =
    (a : PlainAction) (bytes : List ℕ) → is_read a.kind ≡ false → CanBeMade a → a.offset + a.length ≤ length bytes
    → standing a (effect a bytes) ≡ a.bytes

-- What is true of every region stays so by an action that is allowed; so its journal stays a journal of it.

abbrev pub ActedIsKept : Type 0
ActedIsKept = (r : Registered) (a : PlainAction) → IsKept r → IsAllowed (terms_of r) a → CanBeMade a → IsKept (after_action r a)

-- The bytes that a journal leaves are as many as the region has.

abbrev pub ReplayKeepsLength : Type 0
ReplayKeepsLength = (j : PlainJournal) → IsJournal j → length (replay_of j.length j.actions) ≡ j.length

-- A journal goes on from itself, from each that it goes on from in turn, and by an action.

abbrev pub GoesOnFromItself : Type 0
GoesOnFromItself = (j : PlainJournal) → GoesOn j j

abbrev pub GoesOnInTurn : Type 0
GoesOnInTurn = (i j k : PlainJournal) → GoesOn i j → GoesOn j k → GoesOn i k

abbrev pub ActedGoesOn : Type 0
ActedGoesOn = (r : Registered) (a : PlainAction) → GoesOn (journal_of r) (journal_of (after_action r a))

-- Room is nothing that is known of a region: whoever takes some, and then finds no memory for more, has changed nothing
-- that counts.

abbrev pub RoomIsNotKnown : Type 0
RoomIsNotKnown = (lent : Lent) (key more : ℕ) → StaysKnown lent (lent_with_room lent key more)

-- It changes no test, and neither does an action.

abbrev pub RoomChangesNoTest : Type 0
RoomChangesNoTest =
    (lent : Lent) (key more : ℕ) (kind : Access) (piece : Piece) (domain : ℕ)
    → lent_allows (lent_with_room lent key more) kind piece domain ≡ lent_allows lent kind piece domain

abbrev pub ActionChangesNoTest : Type 0
ActionChangesNoTest =
    (lent : Lent) (key : ℕ) (a : PlainAction) (kind : Access) (piece : Piece) (domain : ℕ)
    → lent_allows (lent_after lent key a) kind piece domain ≡ lent_allows lent kind piece domain

-- What is allowed on a piece may be made, whatever its bytes and whoever acts, once there is room for it.

abbrev pub AllowedMayAct : Type 0
AllowedMayAct =
    (lent : Lent) (kind : Access) (piece : Piece) (bytes : List ℕ) (qp domain : ℕ)
    → lent_allows lent kind piece domain ≡ true
    → MayAct (lent_with_room lent piece.key 1) piece.key (acting kind piece bytes qp domain)

-- What is allowed on each of several pieces may be made on one after another, once there is room for one action on each:
-- also where two of them lie in one region.

abbrev pub AllowedMayWriteAll : Type 0
AllowedMayWriteAll =
    (lent : Lent) (kind : Access) (pieces : List Piece) (bytes : List ℕ) (qp domain : ℕ)
    → lent_allows_all lent kind domain pieces ≡ true
    → MayWriteAll (with_rooms_for lent pieces) kind qp domain (writes_of pieces bytes)

abbrev pub AllowedMayReadAll : Type 0
AllowedMayReadAll =
    (lent : Lent) (kind : Access) (pieces : List Piece) (qp domain : ℕ)
    → lent_allows_all lent kind domain pieces ≡ true
    → MayReadAll (with_rooms_for lent pieces) kind qp domain pieces

-- Lent regions go on from themselves, and from each that they go on from in turn; so do they by room, by what a queue pair
-- reads and writes there, and where nothing that counts has changed.

pub record LentKeepsGoing (qp domain : ℕ) : Type 0 where
  pub itself : (lent : Lent) → LentGoesOn qp domain lent lent
  pub in_turn : (old now new : Lent) → LentGoesOn qp domain old now → LentGoesOn qp domain now new → LentGoesOn qp domain old new
  pub known : (old new : Lent) → StaysKnown old new → LentGoesOn qp domain old new
  pub rooms : (lent : Lent) (pieces : List Piece) (more : ℕ) → LentGoesOn qp domain lent (lent_with_rooms lent pieces more)
  pub reads : (lent : Lent) (kind : Access) (pieces : List Piece) → LentGoesOn qp domain lent (lent_read lent kind qp domain pieces)
  pub writes : (lent : Lent) (kind : Access) (writes : List PlainWrite) → LentGoesOn qp domain lent (lent_written lent kind qp domain writes)

abbrev pub LentRegionsGoOn : Type 0
LentRegionsGoOn = (qp domain : ℕ) → LentKeepsGoing qp domain
