-- The lives of cells in a history: the objects that were made in one, in order.
use Rattle.std.specs.Prelude.{ℕ, Bool, true, false, List, [], ◌∷◌, ◌++◌, Option, None, Some}
use Rattle.uv_num.specs.declared.identity.Identity.{Identity}
use Rattle.uv_num.specs.declared.ids.Ids.{Ids}
use Rattle.uv_num.specs.Kind.{kind_place}
use Rattle.uv_pool.specs.declared.deed.Life.{Life}
use Rattle.uv_machine.specs.declared.entry.Entry.{Entry}
use Rattle.uv_machine.specs.declared.object.Object.{Object}
use Rattle.uv_machine.specs.declared.state.State.{State}
use Rattle.uv_machine.specs.Objects.{no_ids}
use Rattle.uv_machine.specs.States.{start}
use Rattle.uv_machine.specs.Histories.{after}
use Rattle.uv_machine.specs.Made.{is_at, new_by}
use Rattle.uv_graph.specs.declared.out.Out.{Out}

-- an object as it is known that used these when it was made
abbrev pub as_made : Ids → Object → Identity
as_made uses x = record { id = x.id; kind = x.kind; request = x.request; uses = uses }

-- what a new object is known by
abbrev pub identity_of : Object → Identity
identity_of x = as_made x.uses x

abbrev pub life_of : Object → Life
life_of x = record { generation = x.generation; identity = identity_of x }

abbrev pub life_if : Bool → Object → List Life
life_if true x = life_of x ∷ []
life_if false x = []

-- the life that a new object begins in the cell
abbrev pub life_in : ℕ → ℕ → Option Object → List Life
life_in k i None = []
life_in k i (Some x) = life_if (is_at k i x) x

abbrev pub lives_from : State → ℕ → ℕ → List Entry → List Life
lives_from m k i [] = []
lives_from m k i (e ∷ es) = life_in k i (new_by m e) ++ lives_from (after m e) k i es

-- the lives of a cell of the kind in this place, in order: one for each Make that gave it to a new object
abbrev pub lives_in : List Entry → ℕ → ℕ → List Life
lives_in h k i = lives_from start k i h

-- What stands is known as it was when it was made, by the last life of its cell: a bind of a window leaves its identity, and so
-- does any other change of what an object uses.

abbrev pub uses_after : Ids → List Life → Ids
uses_after uses [] = uses
uses_after uses (life ∷ lives) = uses_after life.identity.uses lives

-- what the object of the last life used when it was made
abbrev pub last_uses : List Life → Ids
last_uses lives = uses_after no_ids lives

-- what an object is known by that has a cell with these lives
abbrev pub known_in : List Life → Object → Identity
known_in lives x = as_made (last_uses lives) x

-- what an object that stands used when it was made
abbrev pub uses_in : List Entry → Object → Ids
uses_in h x = last_uses (lives_in h (kind_place x.kind) x.index)

-- the lives of the cell whose deed is out
abbrev pub lives_out : List Entry → Option Out → List Life
lives_out h None = []
lives_out h (Some out) = lives_in h (kind_place out.identity.kind) out.index
