-- Laws of objects: what they are made for, what they use, which cells they have, and what bindings give.
use Rattle.std.specs.Prelude.{ℕ, Bool, ◌==◌, true, false, ◌≡◌, ◌≢◌, ◌≤◌, ◌+◌, ◌++◌, List, [], ◌∷◌, Option, None, Some, length, map, slice_get, count_by}
use Rattle.uv_num.specs.declared.access.TheConstants.{ACCESS_LOCAL_WRITE, ACCESS_REMOTE_WRITE, ACCESS_MW_BIND}
use Rattle.uv_num.specs.declared.kind.Kind.{Kind}
use Rattle.uv_num.specs.declared.kind.Kind.TheVariants.{Mr, Mw}
use Rattle.uv_num.specs.declared.limits.TheConstants.{MOST_GENERATION}
use Rattle.uv_num.specs.declared.request.Ask.{Ask}
use Rattle.uv_num.specs.declared.request.Request.{Request}
use Rattle.uv_num.specs.declared.request.Role.TheVariants.{Creates}
use Rattle.uv_num.specs.Access.{has_right}
use Rattle.uv_num.specs.Ids.{ids_of}
use Rattle.uv_num.specs.Kind.{kind_place}
use Rattle.uv_num.specs.Looks.{looks_of}
use Rattle.uv_num.specs.Request.{role_of}
use Rattle.uv_machine.specs.declared.entry.Answer.TheVariants as answer
use Rattle.uv_machine.specs.declared.entry.Entry.{Entry}
use Rattle.uv_machine.specs.declared.entry.Entry.TheVariants.{Open, Enter, Step, Unplug, Tear, Kill, Gone, Dissociated, Closed}
use Rattle.uv_machine.specs.declared.object.Binding.{Binding}
use Rattle.uv_machine.specs.declared.object.Object.{Object}
use Rattle.uv_machine.specs.declared.pool.Cell.{Cell}
use Rattle.uv_machine.specs.declared.state.State.{State}
use Rattle.uv_machine.specs.Objects.{has_id, is_live, is_husk, uses_object, region_length, region_access, domain_of}
use Rattle.uv_machine.specs.Histories.{Allowed, after, IsLegal, state_of}
use Rattle.uv_machine.specs.Reached.{IsIn, cell_in, HasCell}
use Rattle.uv_machine.specs.Lives.{releases_in}
use Rattle.uv_machine.specs.Made.{has_live_cell, released_in, made_in, new_by, listed, is_at, lives_at, gives, gives_from}

-- The objects ever made.

abbrev pub MadeGoesOn : Type 0
MadeGoesOn = (h : List Entry) (e : Entry) → made_in (h ++ e ∷ []) ≡ made_in h ++ listed (new_by (state_of h) e)

-- the id of an object is its place among those that were made
abbrev pub MadeInOrder : Type 0
MadeInOrder = (h : List Entry) (j : ℕ) (x : Object) → IsLegal h → slice_get (made_in h) j ≡ Some x → x.id ≡ j

abbrev pub MadeCounts : Type 0
MadeCounts = (h : List Entry) → IsLegal h → length (made_in h) ≡ (state_of h).made

-- What never changes of an object.

pub record IsSame (x y : Object) : Type 0 where
  pub id : x.id ≡ y.id
  pub kind : x.kind ≡ y.kind
  pub file : x.file ≡ y.file
  pub handle : x.handle ≡ y.handle
  pub request : x.request ≡ y.request
  pub index : x.index ≡ y.index
  pub generation : x.generation ≡ y.generation

-- the region that a binding makes a window use
abbrev pub bound_to : Option Binding → List ℕ
bound_to None = []
bound_to (Some binding) = binding.region ∷ []

-- an object is the one that was made under its id, and uses what it used then, a bound window its region too; a husk uses nothing
pub record IsAsMade (made : List Object) (x : Object) : Type 0 where
  pub item : Object
  pub there : slice_get made x.id ≡ Some item
  pub same : IsSame x item
  pub uses : is_husk x.phase ≡ false → ids_of x.uses ≡ ids_of item.uses ++ bound_to x.binding

abbrev pub StandsAsMade : Type 0
StandsAsMade = (h : List Entry) (x : Object) → IsLegal h → IsIn x (state_of h).objects → IsAsMade (made_in h) x

-- so kind, file, handle, request, cell and generation stay through a history
abbrev pub KeepsCell : Type 0
KeepsCell =
    (h more : List Entry) (x y : Object) → IsLegal (h ++ more) → IsIn x (state_of h).objects → IsIn y (state_of (h ++ more)).objects → x.id ≡ y.id → IsSame x y

-- An object was made by a request that creates its kind, which entered on its file.

pub record IsMadeFor (h : List Entry) (x : Object) : Type 0 where
  pub creates : role_of x.request ≡ Creates x.kind
  pub actor : ℕ
  pub entered : IsIn (Enter actor x.file x.request answer.Ok) h

abbrev pub MadeByRequest : Type 0
MadeByRequest = (h : List Entry) (x : Object) → IsLegal h → IsIn x (made_in h) → IsMadeFor h x

abbrev pub StandsByRequest : Type 0
StandsByRequest = (h : List Entry) (x : Object) → IsLegal h → IsIn x (state_of h).objects → IsMadeFor h x

-- What an object uses is, place by place, what its request looks at, and after it the region that it is bound to.

-- an object of this id is of the kind and file, stands there and is live
pub record IsUsedAs (objects : List Object) (f o : ℕ) (kind : Kind) : Type 0 where
  pub item : Object
  pub within : IsIn item objects
  pub id : item.id ≡ o
  pub is : item.kind ≡ kind
  pub same : item.file ≡ f
  pub live : is_live item.phase ≡ true

-- as many ids as kinds, and each of them of the kind in its place
abbrev pub AllUsedAs : List Object → ℕ → List ℕ → List Kind → Type 0
AllUsedAs objects f [] [] = Unit {0}
AllUsedAs objects f [] (kind ∷ kinds) = ⊥
AllUsedAs objects f (o ∷ os) [] = ⊥
AllUsedAs objects f (o ∷ os) (kind ∷ kinds) = IsUsedAs objects f o kind × AllUsedAs objects f os kinds

abbrev pub kind_in : Ask → Kind
kind_in asked = asked.kind

abbrev pub kinds_of : Request → List Kind
kinds_of request = map kind_in (looks_of request)

abbrev pub region_kind : Option Binding → List Kind
region_kind None = []
region_kind (Some binding) = Mr ∷ []

pub record UsesWhatItAsked (objects : List Object) (x : Object) : Type 0 where
  pub places : AllUsedAs objects x.file (ids_of x.uses) (kinds_of x.request ++ region_kind x.binding)
  -- a window alone is bound, and uses its domain and then the region
  pub bound : (b : Binding) → x.binding ≡ Some b → (x.kind ≡ Mw) × (ids_of x.uses ≡ domain_of x ∷ b.region ∷ [])

abbrev pub UsesFit : Type 0
UsesFit = (h : List Entry) (x : Object) → IsLegal h → IsIn x (state_of h).objects → is_husk x.phase ≡ false → UsesWhatItAsked (state_of h).objects x

-- What an object uses stands there, with the cell that it was made in.

pub record StandsWithCell (m : State) (made : List Object) (o : ℕ) : Type 0 where
  pub item : Object
  pub within : IsIn item m.objects
  pub id : item.id ≡ o
  pub live : is_live item.phase ≡ true
  pub cell : HasCell m.pools item
  pub made_so : IsAsMade made item

abbrev pub UsesKeepCell : Type 0
UsesKeepCell = (h : List Entry) (x : Object) (o : ℕ) → IsLegal h → IsIn x (state_of h).objects → uses_object o x ≡ true → StandsWithCell (state_of h) (made_in h) o

-- The lives of a cell have the generations 0, 1, 2 .., so kind, index and generation name one object for ever.

abbrev pub LivesCount : Type 0
LivesCount = (h : List Entry) (k i j : ℕ) (x : Object) → IsLegal h → slice_get (lives_at h k i) j ≡ Some x → x.generation ≡ j

abbrev pub CellIsOne : Type 0
CellIsOne =
    (h : List Entry) (x y : Object) → IsLegal h → IsIn x (made_in h) → IsIn y (made_in h) → x.kind ≡ y.kind → x.index ≡ y.index → x.generation ≡ y.generation
    → x ≡ y

-- the object that has a cell is the last that was made in it
abbrev pub LastLife : Type 0
LastLife =
    (h : List Entry) (x : Object) → IsLegal h → IsIn x (state_of h).objects → is_husk x.phase ≡ false
    → length (lives_at h (kind_place x.kind) x.index) ≡ x.generation + 1

-- a cell that is out, and that no object has, is spent
abbrev pub SpentIsLast : Type 0
SpentIsLast =
    (h : List Entry) (k i : ℕ) (cell : Cell) → IsLegal h → cell_in (slice_get (state_of h).pools k) i ≡ Some cell → cell.home ≡ false
    → ((x : Object) → IsIn x (state_of h).objects → is_husk x.phase ≡ false → is_at k i x ≡ false) → cell.generation ≡ MOST_GENERATION

-- Cells go round: between two objects in one cell each other cell of the kind that was home at the first is given too.

abbrev pub CellsGoRound : Type 0
CellsGoRound =
    (h es : List Entry) (first last : Entry) (k i j : ℕ) (cell : Cell) → IsLegal ((h ++ first ∷ []) ++ es ++ last ∷ [])
    → gives (state_of h) k i first ≡ true → gives (state_of ((h ++ first ∷ []) ++ es)) k i last ≡ true → i ≢ j
    → cell_in (slice_get (state_of (h ++ first ∷ [])).pools k) j ≡ Some cell → cell.home ≡ true → gives_from (state_of (h ++ first ∷ [])) k j es ≡ true

-- What stands bound gives nothing that its region doesn't: the region lets itself be bound, is of the window's domain, may be
-- written by its owner where the window may be written by others, and has all of the range.

pub record GivesNoMore (objects : List Object) (x : Object) (b : Binding) : Type 0 where
  pub region : Object
  pub within : IsIn region objects
  pub id : region.id ≡ b.region
  pub kind : region.kind ≡ Mr
  pub live : is_live region.phase ≡ true
  pub domain : domain_of x ≡ domain_of region
  pub lends : has_right ACCESS_MW_BIND (region_access region) ≡ true
  pub writes : has_right ACCESS_REMOTE_WRITE b.access ≡ true → has_right ACCESS_LOCAL_WRITE (region_access region) ≡ true
  pub some : b.length ≢ 0
  pub inside : b.offset + b.length ≤ region_length region

abbrev pub BoundGivesNoMore : Type 0
BoundGivesNoMore =
    (h : List Entry) (x : Object) (b : Binding) → IsLegal h → IsIn x (state_of h).objects → x.binding ≡ Some b → GivesNoMore (state_of h).objects x b

-- An entry leaves each object as it is that it doesn't name; when a file is closed its objects go.

abbrev pub names_object : ℕ → Entry → Bool
names_object o (Open c f d a) = false
names_object o (Enter c f request a) = false
names_object o (Step c w i found a) = i == o
names_object o (Unplug d) = false
names_object o (Tear f by) = false
names_object o (Kill i) = i == o
names_object o (Gone i kept) = i == o
names_object o (Dissociated f) = false
names_object o (Closed f) = false

abbrev pub closes_file : ℕ → Entry → Bool
closes_file f (Open c g d a) = false
closes_file f (Enter c g request a) = false
closes_file f (Step c w o found a) = false
closes_file f (Unplug d) = false
closes_file f (Tear g by) = false
closes_file f (Kill o) = false
closes_file f (Gone o kept) = false
closes_file f (Dissociated g) = false
closes_file f (Closed g) = g == f

abbrev pub ObjectsStandApart : Type 0
ObjectsStandApart =
    (m : State) (e : Entry) (x : Object) → Allowed m e → IsIn x m.objects → names_object x.id e ≡ false → closes_file x.file e ≡ false
    → IsIn x (after m e).objects

-- The objects that a history releases are those that its entries release, each as often.
abbrev pub ReleasedCounts : Type 0
ReleasedCounts = (h : List Entry) (o : ℕ) → IsLegal h → count_by (has_id o) (released_in h) ≡ releases_in h o

-- A kind, an index and a generation are the live cell of one object.
abbrev pub LiveCellIsOne : Type 0
LiveCellIsOne =
    (h : List Entry) (kind : Kind) (index generation : ℕ) (x y : Object) → IsLegal h → IsIn x (state_of h).objects → IsIn y (state_of h).objects
    → has_live_cell kind index generation x ≡ true → has_live_cell kind index generation y ≡ true → x ≡ y
