use Rattle.uv_guard.proofs.Lists.{at_place, at_cell, same_cell, same_held}
use Rattle.uv_guard.proofs.Tries.{enters_as}
use Rattle.uv_guard.proofs.guard.Guard.enter.Goals as goal

pub enter-requires-clause-cell : goal.enter-requires-clause-cell
enter-requires-clause-cell g c =
    let at = at_place c.seat.inside.number c.seat.inside.places.items c.self.inside.cells.items c.args.seat.now c.args.self.now c.args.index c.index_mut.result.now c.seat.view_is c.requires.guard c.self.view_is c.self.invariant c.requires.index c.index_mut.ensures.value in
    same_cell c.seat.inside.number c.seat.inside.places.items c.self.inside.cells.items c.args.seat.now c.args.self.now c.args.index c.index_mut.result.now c.index-cell.result.now c.seat.view_is c.requires.guard c.self.view_is at (at_cell c.self.inside.cells.items c.args.index c.index-cell.result.now c.self.invariant c.requires.index c.index-cell.ensures)

pub enter-requires-clause-out : goal.enter-requires-clause-out
enter-requires-clause-out g c =
    let at = at_place c.seat.inside.number c.seat.inside.places.items c.self.inside.cells.items c.args.seat.now c.args.self.now c.args.index c.index_mut.result.now c.seat.view_is c.requires.guard c.self.view_is c.self.invariant c.requires.index c.index_mut.ensures.value in
    same_held c.seat.inside.number c.seat.inside.places.items c.args.seat.now c.args.index c.index_mut.result.now _ c.seat.view_is at c.requires.out

pub returns : goal.returns
returns g c =
    let at = at_place c.seat.inside.number c.seat.inside.places.items c.self.inside.cells.items c.args.seat.now c.args.self.now c.args.index c.index_mut.result.now c.seat.view_is c.requires.guard c.self.view_is c.self.invariant c.requires.index c.index_mut.ensures.value in
    enters_as g.T.Celled.goes_on c.seat.inside.number c.args.index c.args.generation c.seat.inside.places.items c.index_mut.result.now c.enter.new.self c.enter.result c.args.seat.now c.seat.view_is at c.enter.ensures
