use Rattle.std.proofs.Common.{ap, ◌∙◌}
use Rattle.uv_guard.specs.Seated.{outside}
use Rattle.uv_guard.proofs.Lists.{at_place, at_cell, same_cell, same_held, each_set, each_at, put_left}
use Rattle.uv_guard.proofs.guard.Guard.leave.Goals as goal

pub leave-requires-clause-cell : goal.leave-requires-clause-cell
leave-requires-clause-cell g c =
    let at = at_place c.seat.inside.number c.seat.inside.places.items c.self.inside.cells.items c.args.seat.now c.args.self.now c.args.index c.index_mut.result.now c.seat.view_is c.requires.guard c.self.view_is c.self.invariant c.requires.index c.index_mut.ensures.value in
    same_cell c.seat.inside.number c.seat.inside.places.items c.self.inside.cells.items c.args.seat.now c.args.self.now c.args.index c.index_mut.result.now c.index-cell.result.now c.seat.view_is c.requires.guard c.self.view_is at (at_cell c.self.inside.cells.items c.args.index c.index-cell.result.now c.self.invariant c.requires.index c.index-cell.ensures)

pub leave-requires-clause-inside : goal.leave-requires-clause-inside
leave-requires-clause-inside g c =
    let h = c.requires.inside in
    let at = at_place c.seat.inside.number c.seat.inside.places.items c.self.inside.cells.items c.args.seat.now c.args.self.now c.args.index c.index_mut.result.now c.seat.view_is c.requires.guard c.self.view_is c.self.invariant c.requires.index c.index_mut.ensures.value in
    (h.0, same_held c.seat.inside.number c.seat.inside.places.items c.args.seat.now c.args.index c.index_mut.result.now _ c.seat.view_is at h.1, h.2)

pub invariant_of-seat : goal.invariant_of-seat
invariant_of-seat g c =
    let h = c.requires.inside in
    let at = at_place c.seat.inside.number c.seat.inside.places.items c.self.inside.cells.items c.args.seat.now c.args.self.now c.args.index c.index_mut.result.now c.seat.view_is c.requires.guard c.self.view_is c.self.invariant c.requires.index c.index_mut.ensures.value in
    let has = same_held c.seat.inside.number c.seat.inside.places.items c.args.seat.now c.args.index c.index_mut.result.now _ c.seat.view_is at h.1 in
    each_set _ c.seat.inside.places.items c.args.index c.leave.new.self c.seat.invariant (ap (λ p. p.number) (c.leave.ensures h.0 has) ∙ each_at _ c.seat.inside.places.items c.args.index c.index_mut.result.now c.seat.invariant at)

pub returns : goal.returns
returns g c =
    let h = c.requires.inside in
    let at = at_place c.seat.inside.number c.seat.inside.places.items c.self.inside.cells.items c.args.seat.now c.args.self.now c.args.index c.index_mut.result.now c.seat.view_is c.requires.guard c.self.view_is c.self.invariant c.requires.index c.index_mut.ensures.value in
    let has = same_held c.seat.inside.number c.seat.inside.places.items c.args.seat.now c.args.index c.index_mut.result.now _ c.seat.view_is at h.1 in
    put_left c.seat.inside.number c.seat.inside.places.items c.args.index c.index_mut.result.now c.leave.new.self h.0 c.args.value at has (c.leave.ensures h.0 has) ∙ ap (λ s. outside s c.args.index c.args.value) c.seat.view_is
