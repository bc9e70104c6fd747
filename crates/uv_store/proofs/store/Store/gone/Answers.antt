use Rattle.std.proofs.Common.{◌≡◌, ◌∙◌, List, Some, ap, sym, subst}
use Rattle.uv_machine.specs.declared.entry.Entry.TheVariants.{Gone}
use Rattle.uv_machine.specs.declared.object.Object.{Object}
use Rattle.uv_machine.specs.declared.pool.Pool.{Pool}
use Rattle.uv_machine.specs.declared.state.State.{State}
use Rattle.uv_machine.specs.Cells.{buried_at}
use Rattle.uv_machine.specs.Histories.{Allowed}
use Rattle.uv_machine.specs.States.{object_with}
use Rattle.uv_num.specs.Kind.{kind_place}
use Rattle.uv_num.specs.Place.{at_place}
use Rattle.uv_store.specs.Marks.{mark_on}
use Rattle.uv_store.specs.Stored.{IsStored}
use Rattle.uv_store.proofs.Legal.{rises}
use Rattle.uv_store.proofs.Releasing.{stored_gone}
use Rattle.uv_store.proofs.store.Store.gone.Goals as goal

pub turn_marks-requires : goal.turn_marks-requires
turn_marks-requires c = rises _ c.self.invariant.legal

pub turn_object-requires : goal.turn_object-requires
turn_object-requires c = rises _ c.self.invariant.legal

pub invariant_of-self : goal.invariant_of-self
invariant_of-self c =
    let m = c.self.inside.state in
    let s = c.self.invariant in
    let k = c.self.inside in
    let o = c.args.object in
    let x = c.in-Some.x in
    let less = c.recount.new.counts in
    let fewer = c.recount-in-Some.new.counts in
    let P : State → Type 0 = λ v. Allowed v (Gone o c.args.kept) in
    let Q : State → Type 0 = λ v. object_with v o ≡ Some x in
    let R : List Pool → Type 0 = λ v. IsStored (record m { objects = c.turn_object.new.objects; pools = v }) c.turn_marks.new.marks k.tables less fewer in
    let S : List Object → Type 0 = λ v. IsStored (record m { objects = v; pools = at_place m.pools (kind_place x.kind) (buried_at x.index) }) c.turn_marks.new.marks k.tables less fewer in
    subst R (sym (c.change_at.ensures ∙ ap (λ p. at_place m.pools p (buried_at x.index)) c.place.ensures.place))
    (subst S (sym c.turn_object.ensures)
    (stored_gone m s.legal o c.args.kept x (subst Q (sym c.self.view_is) (sym c.in-Some.ensures)) (subst P (sym c.self.view_is) c.requires) k.marks c.turn_marks.new.marks k.tables k.doomed less k.standing fewer s (c.turn_marks.ensures (mark_on m) s.marked) c.recount.ensures.counts c.recount.ensures.size c.recount-in-Some.ensures.counts c.recount-in-Some.ensures.size))
