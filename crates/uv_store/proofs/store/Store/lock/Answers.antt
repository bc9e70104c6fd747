use Rattle.std.proofs.Common.{◌∙◌, ap, sym, subst}
use Rattle.uv_machine.specs.declared.entry.Word.TheVariants.{Lock}
use Rattle.uv_machine.specs.declared.state.State.{State}
use Rattle.uv_machine.specs.Histories.{after}
use Rattle.uv_store.specs.Going.{Goes}
use Rattle.uv_store.specs.Marks.{mark_on}
use Rattle.uv_store.specs.Stored.{IsStored}
use Rattle.uv_store.proofs.Legal.{rises}
use Rattle.uv_store.proofs.Locking.{stored_lock}
use Rattle.uv_store.proofs.store.Store.lock.Goals as goal

pub turn_mark-requires : goal.turn_mark-requires
turn_mark-requires c = rises _ c.self.invariant.legal

pub invariant_of-self : goal.invariant_of-self
invariant_of-self c =
    let m = c.self.inside.state in
    let P : State → Type 0 = λ v. Goes v c.args.client c.args.step Lock in
    let R : State → Type 0 = λ v. IsStored v c.turn_mark.new.marks c.self.inside.tables c.self.inside.doomed c.self.inside.standing in
    subst R (sym (c.apply.ensures ∙ ap (after m) c.entry_by.ensures))
    (stored_lock m c.self.invariant.legal c.args.client c.args.step (subst P (sym c.self.view_is) c.requires) c.self.inside.marks c.turn_mark.new.marks _ _ _ c.self.invariant (c.turn_mark.ensures (mark_on m) c.self.invariant.marked))
