use Rattle.std.proofs.Common.{◌≡◌, List, Some, sym, subst}
use Rattle.uv_machine.specs.declared.entry.Entry.TheVariants.{Kill}
use Rattle.uv_machine.specs.declared.object.Object.{Object}
use Rattle.uv_machine.specs.declared.state.State.{State}
use Rattle.uv_machine.specs.Histories.{Allowed}
use Rattle.uv_machine.specs.States.{object_with}
use Rattle.uv_store.specs.Stored.{IsStored}
use Rattle.uv_store.proofs.Legal.{goes_on, rises}
use Rattle.uv_store.proofs.Killing.{stored_doomed, killed_live}
use Rattle.uv_store.proofs.store.Store.kill.Goals as goal

pub turn_object-requires : goal.turn_object-requires
turn_object-requires c = rises _ c.self.invariant.legal

pub invariant_of-self : goal.invariant_of-self
invariant_of-self c =
    let m = c.self.inside.state in
    let s = c.self.invariant in
    let o = c.args.object in
    let x = c.in-Some.x in
    let P : State → Type 0 = λ v. Allowed v (Kill o) in
    let Q : State → Type 0 = λ v. object_with v o ≡ Some x in
    let R : List Object → Type 0 = λ v. IsStored (record m { objects = v }) c.self.inside.marks c.self.inside.tables c.recount.new.counts c.self.inside.standing in
    let allowed = subst P (sym c.self.view_is) c.requires in
    let is = subst Q (sym c.self.view_is) (sym c.in-Some.ensures) in
    subst R (sym c.turn_object.ensures)
    (stored_doomed m s.legal o x is (killed_live m s.legal o x is allowed) c.self.inside.marks c.self.inside.tables c.self.inside.doomed c.recount.new.counts c.self.inside.standing s c.recount.ensures.counts c.recount.ensures.size (goes_on m (Kill o) s.legal allowed))
