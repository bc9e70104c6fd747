-- Deeds that go out to an actor and come back.
use Rattle.std.specs.Prelude.{ℕ, Bool, true, false, ◌≡◌, ◌<◌, List, Option, None, Some, length, slice_get}
use Rattle.uv_num.specs.declared.identity.Identity.{Identity}
use Rattle.uv_num.specs.declared.kind.Kind.{Kind}
use Rattle.uv_num.specs.declared.limits.TheConstants.{CELLS, KINDS}
use Rattle.uv_num.specs.Kind.{kind_place}
use Rattle.uv_pool.specs.Homes.{Homes, deed_at}
use Rattle.uv_pool.specs.declared.deed.Life.{Life}
use Rattle.uv_machine.specs.declared.call.InFlight.{InFlight}
use Rattle.uv_machine.specs.declared.entry.Entry.{Entry}
use Rattle.uv_machine.specs.declared.object.Object.{Object}
use Rattle.uv_machine.specs.declared.pool.Cell.{Cell}
use Rattle.uv_machine.specs.Objects.{is_made, is_live}
use Rattle.uv_machine.specs.States.{call_of, object_with}
use Rattle.uv_machine.specs.Histories.{state_of}
use Rattle.uv_machine.specs.Reached.{cell_in}
use Rattle.uv_graph.specs.declared.out.Out.{Out}
use Rattle.uv_graph.specs.Kept.{Kept, out_of, kill_of}
use Rattle.uv_pool.specs.Deeds.{DeedFacts, TellsLives}
use Rattle.uv_graph.specs.Deeds.{out_for, IsDeedForNew, IsDeedPlantedFor, IsDeedBuried}
use Rattle.uv_graph.specs.Lives.{identity_of, uses_in, lives_in, lives_out}
use Rattle.uv_graph.specs.Notes.{NotesOut, NotesKill}

-- what a call's new object of a kind is known by: it uses what the call looks at
abbrev pub made_identity : InFlight → ℕ → Kind → Identity
made_identity call o kind = record { id = o; kind = kind; request = call.request; uses = call.looked }

-- a make: the deed of the new object's cell went out to the client
pub record HandsNew (old new : Kept) (e : Entry) (client o : ℕ) (t : DeedFacts) : Type 0 where
  pub item : Object
  pub there : object_with (state_of new.history) o ≡ Some item
  pub made : is_made item.phase ≡ true
  pub call : InFlight
  pub is : call_of (state_of old.history) client ≡ Some call
  pub identity : identity_of item ≡ made_identity call o item.kind
  pub notes : NotesOut old new e client (Some (out_for item.uses item))
  pub in_hand : out_of new client ≡ Some (out_for item.uses item)
  pub deed : IsDeedForNew t (out_for item.uses item) (lives_out new.history (Some (out_for item.uses item)))

-- what an actor has in its hands of an object's that stands
abbrev pub out_in : List Entry → Object → Out
out_in h x = out_for (uses_in h x) x

-- a check of a live object: its deed went out to the client, planted for what it is out for
pub record HandsPlanted (old new : Kept) (e : Entry) (client o : ℕ) (t : DeedFacts) : Type 0 where
  pub item : Object
  pub there : object_with (state_of old.history) o ≡ Some item
  pub live : is_live item.phase ≡ true
  pub notes : NotesOut old new e client (Some (out_in old.history item))
  pub in_hand : out_of new client ≡ Some (out_in old.history item)
  pub deed : IsDeedPlantedFor t (out_in old.history item) (lives_out new.history (Some (out_in old.history item)))

-- a kill: the object's deed went out to who tears its file down, planted for what it is out for
pub record HandsKilled (old new : Kept) (e : Entry) (actor o : ℕ) (t : DeedFacts) : Type 0 where
  pub item : Object
  pub there : object_with (state_of old.history) o ≡ Some item
  pub live : is_live item.phase ≡ true
  pub notes : NotesKill old new e actor (Some (out_in old.history item))
  pub in_hand : kill_of new actor ≡ Some (out_in old.history item)
  pub deed : IsDeedPlantedFor t (out_in old.history item) (lives_out new.history (Some (out_in old.history item)))

-- the deed that this hand has out for the object comes back buried; its cell has these lives
pub record ComesBuried (hand : Option Out) (lives : List Life) (o : ℕ) (t : DeedFacts) : Type 0 where
  pub out : Out
  pub is : hand ≡ Some out
  pub object : out.identity.id ≡ o
  pub deed : IsDeedBuried t out lives

-- the object is live
abbrev pub is_live_object : Option Object → Bool
is_live_object None = false
is_live_object (Some x) = is_live x.phase

-- Pools at the end.

-- a deed that came home, with the generation and the lives that the history says
pub record IsHomeDeed (t : DeedFacts) (k i : ℕ) (h : List Entry) : Type 0 where
  pub cell : Cell
  pub is : cell_in (slice_get (state_of h).pools k) i ≡ Some cell
  pub kind : kind_place t.kind ≡ k
  pub index : t.index ≡ i
  pub generation : t.generation ≡ cell.generation
  pub planted : t.planted ≡ false
  pub lives : TellsLives t.lives (lives_in h k i)

pub record HasHomeDeed {D : Type 0} (tell : D → DeedFacts) (pool : Homes D) (k i : ℕ) (h : List Entry) : Type 0 where
  pub deed : D
  pub there : deed_at pool i ≡ Some deed
  pub home : IsHomeDeed (tell deed) k i h

pub record IsHomePool {D : Type 0} (tell : D → DeedFacts) (k : ℕ) (pool : Homes D) (h : List Entry) : Type 0 where
  pub kind : kind_place pool.kind ≡ k
  pub deeds : (i : ℕ) → i < CELLS → HasHomeDeed tell pool k i h

-- the pools of all kinds, in the order of the kinds, with all their deeds
pub record AreHomePools {D : Type 0} (tell : D → DeedFacts) (pools : List (Homes D)) (h : List Entry) : Type 0 where
  pub count : length pools ≡ KINDS
  pub each : (k : ℕ) (pool : Homes D) → slice_get pools k ≡ Some pool → IsHomePool tell k pool h
