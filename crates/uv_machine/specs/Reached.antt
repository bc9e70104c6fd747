-- What is true of every state that a legal history leads to.
use Rattle.uv_machine.specs.Accounts.{count_of}
use Rattle.std.specs.Prelude.{ℕ, Bool, true, false, ◌≡◌, ◌≢◌, ◌≤◌, ◌<◌, ◌+◌, ◌-◌, ◌||◌, ◌⊎◌, List, [], ◌∷◌, Option, None, Some, length, slice_get, count_by}
use Rattle.uv_num.specs.declared.errno.Errno.{Errno}
use Rattle.uv_num.specs.declared.limits.TheConstants.{ACTOR_PLACES, CELLS, FILES, HANDLES, MOST_OBJECTS}
use Rattle.uv_num.specs.declared.request.Ask.{Ask}
use Rattle.uv_num.specs.declared.request.Role.{Role}
use Rattle.uv_num.specs.declared.request.Role.TheVariants.{Creates, Destroys, Acts}
use Rattle.uv_num.specs.Ids.{ids_of}
use Rattle.uv_num.specs.Kind.{kind_rank, kind_place}
use Rattle.uv_num.specs.Looks.{looks_of}
use Rattle.uv_num.specs.Request.{role_of}
use Rattle.uv_machine.specs.declared.entry.Word.{Word}
use Rattle.uv_machine.specs.declared.entry.Word.TheVariants.{Reserve, Look, Make, Commit, Act, Lock, Check, Finish, Abort, Free, Exit}
use Rattle.uv_machine.specs.declared.object.Object.{Object}
use Rattle.uv_machine.specs.declared.object.Phase.{Phase}
use Rattle.uv_machine.specs.declared.call.InFlight.{InFlight}
use Rattle.uv_machine.specs.declared.pool.Cell.{Cell}
use Rattle.uv_machine.specs.declared.pool.Pool.{Pool}
use Rattle.uv_machine.specs.declared.state.State.{State}
use Rattle.uv_machine.specs.Objects.{is_made, is_live, is_doomed, is_husk, has_handle, uses_object, no_ids}
use Rattle.uv_machine.specs.Plans.{next_word, looks_at, holds, reserves}
use Rattle.uv_machine.specs.States.{call_of, phase_of, device_of, is_unplugged, is_fresh, is_removing}
use Rattle.uv_machine.specs.Outside.{may_sweep}

-- an item is one of a list
abbrev pub IsIn : {X : Type 0} → X → List X → Type 0
IsIn x [] = ⊥
IsIn x (y ∷ ys) = (x ≡ y) ⊎ IsIn x ys

-- Calls: what one has and holds, by its place in its plan.

abbrev pub look_count : InFlight → ℕ
look_count call = length (ids_of call.looked)

-- so many numbers set aside, objects looked at and objects locked
pub record Has (call : InFlight) (numbers looks locks : ℕ) : Type 0 where
  pub numbers_are : count_of call.reserved ≡ numbers
  pub looks_are : look_count call ≡ looks
  pub locks_are : count_of call.locked ≡ locks

-- a create: a number from its Reserve to its Make, the object's lock from there to its Commit
pub record HasInCreate (call : InFlight) (looks place : ℕ) : Type 0 where
  pub begun : place ≡ 0 → Has call 0 0 0
  pub looking : 1 ≤ place → place ≤ looks + 1 → Has call 1 (place - 1) 0
  pub made : place ≡ looks + 2 → Has call 0 looks 1
  pub ended : place ≡ looks + 3 → (count_of call.reserved ≡ 0) × (count_of call.locked ≡ 0)
  pub within : place ≤ looks + 3

-- a destroy: the lock from its Lock to its Finish
pub record HasInDestroy (call : InFlight) (place : ℕ) : Type 0 where
  pub begun : place ≡ 0 → Has call 0 0 0
  pub locked : 1 ≤ place → place ≤ 2 → Has call 0 0 1
  pub ended : place ≡ 3 → Has call 0 0 0
  pub within : place ≤ 3

-- an act
pub record HasInAct (call : InFlight) (looks place : ℕ) : Type 0 where
  pub looking : place ≤ looks → Has call 0 place 0
  pub ended : place ≡ looks + 1 → (count_of call.reserved ≡ 0) × (count_of call.locked ≡ 0)
  pub within : place ≤ looks + 1

-- after a refusal: a create is refused before its Make, and a destroy may hold its object to the end
abbrev pub HasRefused : InFlight → Role → Type 0
HasRefused call (Creates kind) = count_of call.locked ≡ 0
HasRefused call (Destroys asked) = (count_of call.reserved ≡ 0) × (look_count call ≡ 0)
HasRefused call (Acts act) = (count_of call.reserved ≡ 0) × (count_of call.locked ≡ 0)

abbrev pub HasInPlan : InFlight → Role → ℕ → Type 0
HasInPlan call (Creates kind) looks = HasInCreate call looks call.place
HasInPlan call (Destroys asked) looks = HasInDestroy call call.place
HasInPlan call (Acts act) looks = HasInAct call looks call.place

abbrev pub HasBehind : InFlight → Option Errno → Type 0
HasBehind call None = HasInPlan call (role_of call.request) (length (looks_of call.request))
HasBehind call (Some e) = HasRefused call (role_of call.request)

pub record IsPhased (call : InFlight) : Type 0 where
  pub looks : look_count call ≤ length (looks_of call.request)
  pub has : HasBehind call call.refusal

-- Objects: their ids, and what they use.

-- the ids of the objects rise from here, and end below the top
abbrev pub IsRising : ℕ → List Object → ℕ → Type 0
IsRising low [] top = low ≤ top
IsRising low (x ∷ xs) top = (low ≤ x.id) × IsRising (x.id + 1) xs top

-- an object stands above one that it uses, and in the same file
pub record IsAbove (x y : Object) : Type 0 where
  pub rank : kind_rank y.kind < kind_rank x.kind
  pub same : y.file ≡ x.file

-- what an object uses was made before; while it stands it is of the same file and of a lower rank
pub record UsesWell (made : ℕ) (objects : List Object) (x : Object) : Type 0 where
  pub husk : is_husk x.phase ≡ true → x.uses ≡ no_ids
  pub below : (o : ℕ) → uses_object o x ≡ true → o < made
  pub above : (y : Object) → IsIn y objects → uses_object y.id x ≡ true → IsAbove x y

-- the objects by themselves
pub record IsGraph (made : ℕ) (objects : List Object) : Type 0 where
  pub rising : IsRising 0 objects made
  pub uses : (x : Object) → IsIn x objects → UsesWell made objects x

-- What calls hold.

-- the words up to the Make or the Act
abbrev pub is_early : Word → Bool
is_early Reserve = true
is_early Look = true
is_early Make = true
is_early Commit = false
is_early Act = true
is_early Lock = false
is_early Check = false
is_early Finish = false
is_early Abort = false
is_early Free = false
is_early Exit = false

-- an object is what was asked for on this file, and in use
pub record Suits (f : ℕ) (asked : Ask) (y : Object) : Type 0 where
  pub kind : y.kind ≡ asked.kind
  pub same : y.file ≡ f
  pub live : is_live y.phase ≡ true

-- what was looked at suits what was asked for, in order
abbrev pub AllSuit : List Object → ℕ → List ℕ → List Ask → Type 0
AllSuit objects f [] asks = Unit {0}
AllSuit objects f (o ∷ os) [] = ⊥
AllSuit objects f (o ∷ os) (asked ∷ asks) = ((y : Object) → IsIn y objects → y.id ≡ o → Suits f asked y) × AllSuit objects f os asks

-- a call holds what was made: exclusively an object of its file, and what it looks at suits it until it has made its object
-- or acted
pub record HoldsWell (made : ℕ) (objects : List Object) (call : InFlight) : Type 0 where
  pub looked : (o : ℕ) → looks_at o call ≡ true → o < made
  pub locked : (o : ℕ) → call.locked ≡ Some o → o < made
  pub placed : (o : ℕ) → call.locked ≡ Some o → (y : Object) → IsIn y objects → y.id ≡ o → y.file ≡ call.file
  pub suits : is_early (next_word call) ≡ true → AllSuit objects call.file (ids_of call.looked) (looks_of call.request)

-- what one call holds exclusively no other holds
abbrev pub StandAlone : State → Type 0
StandAlone m = (a b : ℕ) (j k : InFlight) (o : ℕ) → call_of m a ≡ Some j → call_of m b ≡ Some k → a ≢ b → j.locked ≡ Some o → holds o (Some k) ≡ false

-- a call that holds this object makes this word next
pub record IsHeldFor (m : State) (w : Word) (x : Object) : Type 0 where
  pub actor : ℕ
  pub call : InFlight
  pub is : call_of m actor ≡ Some call
  pub word : next_word call ≡ w
  pub own : call.locked ≡ Some x.id
  pub same : call.file ≡ x.file

-- What a call holds exclusively stands there, in a phase that its next word allows: a create commits what is made, a destroy checks
-- what is live or a husk, and finishes what is doomed or a husk.

abbrev pub is_held_at : Word → Phase → Bool
is_held_at Reserve p = is_live p || is_husk p
is_held_at Look p = is_live p || is_husk p
is_held_at Make p = is_live p || is_husk p
is_held_at Commit p = is_made p
is_held_at Act p = is_live p || is_husk p
is_held_at Lock p = is_live p || is_husk p
is_held_at Check p = is_live p || is_husk p
is_held_at Finish p = is_doomed p || is_husk p
is_held_at Abort p = is_live p || is_husk p
is_held_at Free p = is_live p || is_husk p
is_held_at Exit p = is_live p || is_husk p

pub record IsInPhaseFor (w : Word) (objects : List Object) (o : ℕ) : Type 0 where
  pub item : Object
  pub within : IsIn item objects
  pub id : item.id ≡ o
  pub held : is_held_at w item.phase ≡ true

abbrev pub OwnStands : State → Type 0
OwnStands m = (b o : ℕ) (k : InFlight) → call_of m b ≡ Some k → k.locked ≡ Some o → IsInPhaseFor (next_word k) m.objects o

-- What a call looks at, and what an object uses, stands there and is live, in the file of the call or the object.

pub record StandsLive (objects : List Object) (f o : ℕ) : Type 0 where
  pub item : Object
  pub within : IsIn item objects
  pub id : item.id ≡ o
  pub same : item.file ≡ f
  pub live : is_live item.phase ≡ true

abbrev pub LooksStand : State → Type 0
LooksStand m = (b o : ℕ) (k : InFlight) → call_of m b ≡ Some k → looks_at o k ≡ true → StandsLive m.objects k.file o

abbrev pub UsesStand : State → Type 0
UsesStand m = (x : Object) (o : ℕ) → IsIn x m.objects → uses_object o x ≡ true → StandsLive m.objects x.file o

-- Cells.

abbrev pub cell_in : Option Pool → ℕ → Option Cell
cell_in None i = None
cell_in (Some pool) i = slice_get pool.cells i

-- the cell that an object has
abbrev pub cell_of : List Pool → Object → Option Cell
cell_of pools x = cell_in (slice_get pools (kind_place x.kind)) x.index

-- it isn't home, and has the generation that was told
pub record HasCell (pools : List Pool) (x : Object) : Type 0 where
  pub cell : Cell
  pub is : cell_of pools x ≡ Some cell
  pub out : cell.home ≡ false
  pub same : x.generation ≡ cell.generation

-- each kind has so many cells, and an object that is no husk has one of its own
pub record IsCelled (pools : List Pool) (objects : List Object) : Type 0 where
  pub cells : (k : ℕ) (pool : Pool) → slice_get pools k ≡ Some pool → length pool.cells ≡ CELLS
  pub has : (x : Object) → IsIn x objects → is_husk x.phase ≡ false → HasCell pools x
  pub own :
      (x y : Object) → IsIn x objects → IsIn y objects → is_husk x.phase ≡ false → is_husk y.phase ≡ false → x.kind ≡ y.kind → x.index ≡ y.index
      → x.id ≡ y.id

-- What there is at most.

pub record IsBounded (m : State) : Type 0 where
  pub objects : length m.objects ≤ MOST_OBJECTS
  pub handles : (x : Object) → IsIn x m.objects → (x.file < FILES) × (x.handle < HANDLES)
  pub numbers : (b n : ℕ) (k : InFlight) → call_of m b ≡ Some k → k.reserved ≡ Some n → (k.file < FILES) × (n < HANDLES)
  pub looks : (b : ℕ) (k : InFlight) → call_of m b ≡ Some k → look_count k ≤ 4
  -- a number of a file is that of one object, or set aside for one call
  pub once : (f n : ℕ) → count_by (has_handle f n) m.objects + count_by (reserves f n) m.calls ≤ 1

-- the device of a file that was opened is gone
pub record IsLeft (m : State) (f : ℕ) : Type 0 where
  pub opened : is_fresh (phase_of m f) ≡ false
  pub gone : is_unplugged m (device_of m f) ≡ true

-- what is true of every state that a legal history leads to
pub record Reached (m : State) : Type 0 where
  pub files : length m.files ≡ FILES
  pub calls : length m.calls ≡ ACTOR_PLACES
  pub phased : (b : ℕ) (k : InFlight) → call_of m b ≡ Some k → IsPhased k
  pub graph : IsGraph m.made m.objects
  pub holds_well : (b : ℕ) (k : InFlight) → call_of m b ≡ Some k → HoldsWell m.made m.objects k
  pub alone : StandAlone m
  -- an object that isn't committed has a call that is about to commit it
  pub making : (x : Object) → IsIn x m.objects → is_made x.phase ≡ true → IsHeldFor m Commit x
  -- a doomed object has a call that is about to finish it, or its file is being swept
  pub ending : (x : Object) → IsIn x m.objects → is_doomed x.phase ≡ true → IsHeldFor m Finish x ⊎ (may_sweep m x.file ≡ true)
  -- a husk's file is being swept, or its device is gone
  pub husks : (x : Object) → IsIn x m.objects → is_husk x.phase ≡ true → (may_sweep m x.file ≡ true) ⊎ IsLeft m x.file
  -- the driver tears down files of devices that are gone
  pub removing : (f : ℕ) → is_removing (phase_of m f) ≡ true → is_unplugged m (device_of m f) ≡ true
