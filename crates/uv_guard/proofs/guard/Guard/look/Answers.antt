use Rattle.std.proofs.Common.{ap, ◌∙◌, [], ◌∷◌}
use Rattle.uv_guard.specs.Words.{life_word}
use Rattle.uv_guard.specs.Seated.{finds}
use Rattle.uv_guard.proofs.Lists.{at_place, at_cell, same_cell, put_found}
use Rattle.uv_guard.proofs.guard.Guard.look.Goals as goal

pub look-requires : goal.look-requires
look-requires g c =
    let at = at_place c.seat.inside.number c.seat.inside.places.items c.self.inside.cells.items c.args.seat.now c.args.self.now c.args.index c.index_mut.result.now c.seat.view_is c.requires.guard c.self.view_is c.self.invariant c.requires.index c.index_mut.ensures.value in
    record { cell = same_cell c.seat.inside.number c.seat.inside.places.items c.self.inside.cells.items c.args.seat.now c.args.self.now c.args.index c.index_mut.result.now c.index-cell.result.now c.seat.view_is c.requires.guard c.self.view_is at (at_cell c.self.inside.cells.items c.args.index c.index-cell.result.now c.self.invariant c.requires.index c.index-cell.ensures) }

pub returns : goal.returns
returns g c =
    let at = at_place c.seat.inside.number c.seat.inside.places.items c.self.inside.cells.items c.args.seat.now c.args.self.now c.args.index c.index_mut.result.now c.seat.view_is c.requires.guard c.self.view_is c.self.invariant c.requires.index c.index_mut.ensures.value in
    put_found c.seat.inside.number c.seat.inside.places.items c.args.index c.index_mut.result.now c.look.new.self (life_word c.look.result ∷ []) at c.look.ensures ∙ ap (λ s. finds s c.args.index (life_word c.look.result ∷ [])) c.seat.view_is
