-- What an object uses at a place, as it is told outside.
use Rattle.std.specs.Prelude.{ℕ, ◌≡◌, Option, None, Some, slice_get, if◌then◌else◌}
use Rattle.uv_num.specs.Ids.{ids_of}
use Rattle.uv_machine.specs.declared.object.Object.{Object}
use Rattle.uv_machine.specs.declared.state.State.{State}
use Rattle.uv_machine.specs.Objects.{is_husk}
use Rattle.uv_machine.specs.States.{object_with}
use Rattle.uv_core.specs.declared.uses.Used.{Used}

-- the id at this place of an object's uses, if there is one: an object that isn't there has none, and neither has a husk
abbrev pub use_in : Option Object → ℕ → Option ℕ
use_in None place = None
use_in (Some x) place = if is_husk x.phase then None else slice_get (ids_of x.uses) place

abbrev pub use_at : State → ℕ → ℕ → Option ℕ
use_at m o place = use_in (object_with m o) place

-- the use at that place is this object, which stands there with its kind, in this cell under this generation
pub record IsUse (m : State) (o place : ℕ) (used : Used) : Type 0 where
  pub is : use_at m o place ≡ Some used.object
  pub item : Object
  pub there : object_with m used.object ≡ Some item
  pub kind : item.kind ≡ used.kind
  pub index : item.index ≡ used.index
  pub generation : item.generation ≡ used.generation

-- nothing is told exactly where the object has no use at the place
abbrev pub UsedGives : State → ℕ → ℕ → Option Used → Type 0
UsedGives m o place None = use_at m o place ≡ None
UsedGives m o place (Some used) = IsUse m o place used
