use Rattle.std.proofs.Common.{◌≡◌, List, sym, subst}
use Rattle.std.specs.Prelude.{filter}
use Rattle.uv_machine.specs.declared.entry.Entry.TheVariants.{Closed}
use Rattle.uv_machine.specs.declared.object.Object.{Object}
use Rattle.uv_machine.specs.declared.state.State.{State}
use Rattle.uv_machine.specs.Effects.{not_in_file}
use Rattle.uv_machine.specs.Histories.{Allowed}
use Rattle.uv_store.specs.Marks.{mark_on, marks_by}
use Rattle.uv_store.specs.Stored.{IsStored}
use Rattle.uv_store.proofs.Closing.{stored_closed}
use Rattle.uv_store.proofs.store.Store.close.Goals as goal

pub invariant_of-self : goal.invariant_of-self
invariant_of-self c =
    let m = c.self.inside.state in
    let s = c.self.invariant in
    let k = c.self.inside in
    let f = c.args.file in
    let g = mark_on m in
    let P : State → Type 0 = λ v. Allowed v (Closed f) in
    let T : List Object → Type 0 = λ v. k.marks ≡ marks_by g v → c.take_file.new.marks ≡ marks_by g (filter (not_in_file f) v) in
    let R : State → Type 0 = λ v. IsStored v c.take_file.new.marks c.clear.new.tables k.doomed k.standing in
    subst R (sym c.apply.ensures)
    (stored_closed m s.legal f (subst P (sym c.self.view_is) c.requires) k.marks c.take_file.new.marks k.tables c.clear.new.tables k.doomed k.standing s (subst T c.as_slice.ensures (c.take_file.ensures g) s.marked) c.clear.ensures)
