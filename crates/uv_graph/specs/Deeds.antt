-- Deeds: what is handed out of an object's, and what a caller owes of a deed that goes back.
use Rattle.std.specs.Prelude.{List}
use Rattle.uv_num.specs.declared.ids.Ids.{Ids}
use Rattle.uv_pool.specs.Deeds as deeds
use Rattle.uv_pool.specs.Deeds.{DeedFacts}
use Rattle.uv_pool.specs.declared.deed.Life.{Life}
use Rattle.uv_machine.specs.declared.object.Object.{Object}
use Rattle.uv_graph.specs.declared.out.Out.{Out}
use Rattle.uv_graph.specs.Lives.{as_made}

-- what an actor has in its hands of an object's that used these when it was made
abbrev pub out_for : Ids → Object → Out
out_for uses x = record { identity = as_made uses x; index = x.index; generation = x.generation }

-- the deed of a cell that isn't planted, for a new object; the object's life is the last of these
abbrev pub IsDeedForNew : DeedFacts → Out → List Life → Type 0
IsDeedForNew t out lives = deeds.IsForNew t out.identity out.index out.generation lives

-- the deed that was handed out, planted for what it is out for, of a cell with these lives
abbrev pub IsDeedPlantedFor : DeedFacts → Out → List Life → Type 0
IsDeedPlantedFor t out lives = deeds.IsPlantedFor t out.identity out.index out.generation lives

-- the deed that was handed out has been buried, and tells these lives: no life more
abbrev pub IsDeedBuried : DeedFacts → Out → List Life → Type 0
IsDeedBuried t out lives = deeds.IsBuried t out.identity.kind out.index out.generation lives
