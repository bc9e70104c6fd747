use Rattle.std.proofs.Common.{ap, ◌∙◌}
use Rattle.uv_guard.specs.Seated.{witnessed}
use Rattle.uv_guard.proofs.Lists.{at_place, put_met}
use Rattle.uv_guard.proofs.guard.Guard.witness.Goals as goal

pub returns-clause-seat : goal.returns-clause-seat
returns-clause-seat g c =
    let at = at_place c.seat.inside.number c.seat.inside.places.items c.self.inside.cells.items c.args.seat.now c.args.self.now c.index-i.result c.index_mut.result.now c.seat.view_is c.requires.seat c.self.view_is c.self.invariant c.index-i.ensures.within c.index_mut.ensures.value in
    put_met c.seat.inside.number c.seat.inside.places.items c.index-i.result c.index_mut.result.now c.witness.new.self c.args.deed.now at c.witness.ensures.place
    ∙ (ap (λ s. witnessed s c.index-i.result c.args.deed.now) c.seat.view_is ∙ ap (λ i. witnessed c.args.seat.now i c.args.deed.now) c.index-i.ensures.index)
