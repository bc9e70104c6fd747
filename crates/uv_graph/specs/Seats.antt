-- What a history says of a cell, and where the cell's deed then is.
use Rattle.std.specs.Prelude.{ℕ, Bool, true, false, not, ◌&&◌, ◌≡◌, ◌⊎◌, ◌<◌, ◌≤◌, ◌+◌, ◌*◌, List, Option, None, Some, find, option_map, slice_get, sum, length}
use Rattle.uv_num.specs.declared.identity.Identity.{Identity}
use Rattle.uv_num.specs.declared.ids.Ids.{Ids}
use Rattle.uv_num.specs.declared.limits.TheConstants.{ACTOR_PLACES, CELLS, KINDS}
use Rattle.uv_num.specs.Kind.{kind_place}
use Rattle.uv_pool.specs.declared.deed.Life.{Life}
use Rattle.uv_pool.specs.Homes.{Homes, deed_at}
use Rattle.uv_machine.specs.declared.entry.Entry.{Entry}
use Rattle.uv_machine.specs.declared.entry.Word.{Word}
use Rattle.uv_machine.specs.declared.entry.Word.TheVariants.{Reserve, Look, Make, Commit, Act, Lock, Check, Finish, Abort, Free, Exit}
use Rattle.uv_machine.specs.declared.file.FilePhase.TheVariants.{Tearing}
use Rattle.uv_machine.specs.declared.object.Object.{Object}
use Rattle.uv_machine.specs.declared.pool.Cell.{Cell}
use Rattle.uv_machine.specs.declared.pool.Pool.{Pool}
use Rattle.uv_machine.specs.declared.call.InFlight.{InFlight}
use Rattle.uv_machine.specs.declared.state.State.{State}
use Rattle.uv_machine.specs.Objects.{is_made, is_doomed, is_husk}
use Rattle.uv_machine.specs.Plans.{next_word}
use Rattle.uv_machine.specs.States.{call_of, object_with, phase_of, is_quiet}
use Rattle.uv_machine.specs.Histories.{state_of, IsLegal}
use Rattle.uv_machine.specs.Reached.{IsIn, cell_in}
use Rattle.uv_machine.specs.Made.{is_at}
use Rattle.uv_graph.specs.declared.out.Out.{Out}
use Rattle.uv_pool.specs.Deeds.{DeedFacts, TellsLives}
use Rattle.uv_graph.specs.Kept.{Kept, out_of, kill_of}
use Rattle.uv_graph.specs.Lives.{known_in, last_uses, lives_in, lives_out}
use Rattle.uv_machine.specs.Logged.{Logged}

-- the object stands in this cell: it isn't a husk
abbrev pub stands_at : ℕ → ℕ → Object → Bool
stands_at k i x = is_at k i x && not (is_husk x.phase)

-- who holds the cell, which has these lives
abbrev pub holder_of : List Life → List Object → ℕ → ℕ → Option Identity
holder_of lives objects k i = option_map (known_in lives) (find (stands_at k i) objects)

-- what a history says of a cell: its generation and whether it is home, who holds it, and its lives
pub record Seat : Type 0 where
  pub cell : Option Cell
  pub holder : Option Identity
  pub lives : List Life

abbrev pub seat_in : State → List Entry → ℕ → ℕ → Seat
seat_in m h k i = record { cell = cell_in (slice_get m.pools k) i; holder = holder_of (lives_in h k i) m.objects k i; lives = lives_in h k i }

abbrev pub seat_of : List Entry → ℕ → ℕ → Seat
seat_of h k i = seat_in (state_of h) h k i

-- a deed of this cell, with its generation and lives
pub record IsDeedAt (t : DeedFacts) (k i : ℕ) (s : Seat) (cell : Cell) : Type 0 where
  pub is : s.cell ≡ Some cell
  pub kind : kind_place t.kind ≡ k
  pub index : t.index ≡ i
  pub generation : t.generation ≡ cell.generation
  pub lives : TellsLives t.lives s.lives

-- the deed of a cell that nobody holds: it may be drawn while it is home, and is spent after the last generation
pub record IsIdleDeed (t : DeedFacts) (k i : ℕ) (s : Seat) : Type 0 where
  pub cell : Cell
  pub at : IsDeedAt t k i s cell
  pub planted : t.planted ≡ false
  pub spent : t.spent ≡ not cell.home

-- the deed of a cell that is held, planted for its holder
pub record IsHeldDeed (t : DeedFacts) (k i : ℕ) (s : Seat) (holder : Identity) : Type 0 where
  pub cell : Cell
  pub at : IsDeedAt t k i s cell
  pub planted : t.planted ≡ true
  pub spent : t.spent ≡ false
  pub identity : t.identity ≡ Some holder

-- the deed of the cell is in an actor's hands, for this object
pub record IsAway (kept : Kept) (k i o : ℕ) : Type 0 where
  pub actor : ℕ
  pub out : Out
  pub named : (out_of kept actor ≡ Some out) ⊎ (kill_of kept actor ≡ Some out)
  pub kind : kind_place out.identity.kind ≡ k
  pub index : out.index ≡ i
  pub object : out.identity.id ≡ o

pub record IsUnheld (slot : Option DeedFacts) (k i : ℕ) (s : Seat) : Type 0 where
  pub deed : DeedFacts
  pub there : slot ≡ Some deed
  pub idle : IsIdleDeed deed k i s

abbrev pub IsHeldOrAway : Kept → Option DeedFacts → ℕ → ℕ → Seat → Identity → Type 0
IsHeldOrAway kept None k i s holder = IsAway kept k i holder.id
IsHeldOrAway kept (Some deed) k i s holder = IsHeldDeed deed k i s holder

-- the deed of a cell stands in its pool while nobody holds the cell, else among the planted ones unless it is out
abbrev pub IsPlaced : Kept → Option DeedFacts → Option DeedFacts → ℕ → ℕ → Seat → Option Identity → Type 0
IsPlaced kept pooled held k i s None = IsUnheld pooled k i s × (held ≡ None)
IsPlaced kept pooled held k i s (Some holder) = (pooled ≡ None) × IsHeldOrAway kept held k i s holder

-- an object is the one that a deed is out for; what it used when it was made is told by its cell's lives
pub record IsFor (out : Out) (x : Object) : Type 0 where
  pub id : x.id ≡ out.identity.id
  pub kind : x.kind ≡ out.identity.kind
  pub request : x.request ≡ out.identity.request
  pub index : x.index ≡ out.index
  pub generation : x.generation ≡ out.generation

-- the words before which a call may have a deed out
abbrev pub is_giving : Word → Bool
is_giving Reserve = false
is_giving Look = false
is_giving Make = false
is_giving Commit = true
is_giving Act = false
is_giving Lock = false
is_giving Check = false
is_giving Finish = true
is_giving Abort = false
is_giving Free = false
is_giving Exit = false

-- a call has a deed out for the object that it has locked and is about to commit or to finish
pub record HasOut (m : State) (c : ℕ) (out : Out) : Type 0 where
  pub call : InFlight
  pub is : call_of m c ≡ Some call
  pub locked : call.locked ≡ Some out.identity.id
  pub word : is_giving (next_word call) ≡ true
  pub item : Object
  pub there : object_with m out.identity.id ≡ Some item
  pub same : IsFor out item
  pub phase : (is_made item.phase ≡ true) ⊎ (is_doomed item.phase ≡ true)

-- a teardown has a deed out for an object that it has doomed
pub record HasKill (m : State) (b : ℕ) (out : Out) : Type 0 where
  pub item : Object
  pub there : object_with m out.identity.id ≡ Some item
  pub same : IsFor out item
  pub phase : is_doomed item.phase ≡ true
  pub torn : phase_of m item.file ≡ Tearing b
  pub quiet : is_quiet m item.file ≡ true

-- the deed of each doomed object is in an actor's hands
abbrev pub AreHandedOut : Kept → List Object → Type 0
AreHandedOut kept objects = (x : Object) → IsIn x objects → is_doomed x.phase ≡ true → IsAway kept (kind_place x.kind) x.index x.id

-- the deed in a slot, if there is a slot
abbrev pub slot_of : {D : Type 0} → Option (Option D) → Option D
slot_of None = None
slot_of (Some slot) = slot

-- the deed at a place of a pool, if there is a pool
abbrev pub deed_in : {D : Type 0} → Option (Homes D) → ℕ → Option D
deed_in None i = None
deed_in (Some pool) i = deed_at pool i

-- a pool of the kind in this place, whose next choice begins where the machine's does
pub record IsPoolFor {D : Type 0} (k : ℕ) (machine : Option Pool) (pool : Homes D) : Type 0 where
  pub kind : kind_place pool.kind ≡ k
  pub size : length pool.deeds ≡ CELLS
  pub cells : Pool
  pub is : machine ≡ Some cells
  pub next : pool.next ≡ cells.next

-- the place of a cell in a list over all kinds
abbrev pub seat_place : ℕ → ℕ → ℕ
seat_place k i = k * CELLS + i

-- how the parts of a graph fit
pub record IsTied {D : Type 0} (tell : D → DeedFacts) (log : Logged) (kept : Kept) (pools : List (Homes D)) (held : List (Option D)) : Type 0 where
  pub history : kept.history ≡ log.history
  pub legal : IsLegal log.history
  pub covered : sum kept.spares ≤ log.spare
  pub seats : length held ≡ KINDS * CELLS
  pub kinds : length pools ≡ KINDS
  pub outs_size : length kept.outs ≡ ACTOR_PLACES
  pub kills_size : length kept.kills ≡ ACTOR_PLACES
  pub pools_are : (k : ℕ) (pool : Homes D) → slice_get pools k ≡ Some pool → IsPoolFor k (slice_get (state_of log.history).pools k) pool
  pub placed : (k i : ℕ) → k < KINDS → i < CELLS
      → IsPlaced kept (option_map tell (deed_in (slice_get pools k) i)) (option_map tell (slot_of (slice_get held (seat_place k i)))) k i (seat_of log.history k i) (seat_of log.history k i).holder
  pub outs : (c : ℕ) (out : Out) → out_of kept c ≡ Some out → HasOut (state_of log.history) c out
  pub kills : (b : ℕ) (out : Out) → kill_of kept b ≡ Some out → HasKill (state_of log.history) b out
  pub handed : AreHandedOut kept (state_of log.history).objects

-- an actor tears one file at most
abbrev pub TearsOnce : State → Type 0
TearsOnce m = (b f g : ℕ) → phase_of m f ≡ Tearing b → phase_of m g ≡ Tearing b → f ≡ g

-- what is out for an object says what that used when it was made
abbrev pub AreKnown : Kept → List Entry → Type 0
AreKnown kept h = (a : ℕ) (out : Out) → (out_of kept a ≡ Some out) ⊎ (kill_of kept a ≡ Some out) → out.identity.uses ≡ last_uses (lives_out h (Some out))

-- for each cell it is stored what its last object used when it was made
abbrev pub StoresUses : List Ids → List Entry → Type 0
StoresUses uses h = (k i : ℕ) → k < KINDS → i < CELLS → slice_get uses (seat_place k i) ≡ Some (last_uses (lives_in h k i))

-- what is true of a graph
pub record IsWhole {D : Type 0} (tell : D → DeedFacts) (log : Logged) (kept : Kept) (pools : List (Homes D)) (held : List (Option D)) (uses : List Ids) : Type 0 where
  pub tied : IsTied tell log kept pools held
  pub once : TearsOnce (state_of log.history)
  pub known : AreKnown kept log.history
  pub stored : StoresUses uses log.history
