use Rattle.std.proofs.Common.{◌∙◌, sym}
use Rattle.uv_store.proofs.Placing.{turned_object, no_object}
use Rattle.uv_store.proofs.places.turn_object.Goals as goal

pub returns-in-None : goal.returns-in-None
returns-in-None c = sym (no_object _ _ c.args.change c.in-None.ensures)

pub returns-in-Some : goal.returns-in-Some
returns-in-Some c = c.set_object.ensures ∙ turned_object _ _ _ c.args.change c.requires c.in-Some.ensures
