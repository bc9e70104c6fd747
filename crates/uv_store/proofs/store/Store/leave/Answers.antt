use Rattle.std.proofs.Common.{◌∙◌, ap, sym, subst}
use Rattle.uv_machine.specs.declared.state.State.{State}
use Rattle.uv_machine.specs.Histories.{Allowed, after}
use Rattle.uv_store.specs.Going.{entry_by, own_in}
use Rattle.uv_store.specs.Marks.{mark_on}
use Rattle.uv_store.specs.Stored.{IsStored}
use Rattle.uv_store.proofs.Leaving.{stored_leave, stored_let_go}
use Rattle.uv_store.proofs.Legal.{rises}
use Rattle.uv_store.proofs.store.Store.leave.Goals as goal

pub turn_mark-requires : goal.turn_mark-requires
turn_mark-requires c = rises _ c.self.invariant.legal

pub invariant_of-self : goal.invariant_of-self
invariant_of-self c =
    let m = c.self.inside.state in
    let P : State → Type 0 = λ v. Allowed v (entry_by c.args.client c.args.step) in
    let R : State → Type 0 = λ v. IsStored v c.self.inside.marks c.self.inside.tables c.self.inside.doomed c.self.inside.standing in
    let own = sym (c.in-None.ensures ∙ ap own_in c.call_of.ensures) in
    subst R (sym (c.apply.ensures ∙ ap (after m) c.entry_by.ensures))
    (stored_leave m c.self.invariant.legal c.args.client c.args.step (subst P (sym c.self.view_is) c.requires.allowed) c.requires.word c.self.inside.marks _ _ _ c.self.invariant own)

pub invariant_of-self-in-Some : goal.invariant_of-self-in-Some
invariant_of-self-in-Some c =
    let m = c.self.inside.state in
    let P : State → Type 0 = λ v. Allowed v (entry_by c.args.client c.args.step) in
    let R : State → Type 0 = λ v. IsStored v c.turn_mark.new.marks c.self.inside.tables c.self.inside.doomed c.self.inside.standing in
    let own = sym (c.in-Some.ensures ∙ ap own_in c.call_of.ensures) in
    subst R (sym (c.apply-in-Some.ensures ∙ ap (after m) c.entry_by-in-Some.ensures))
    (stored_let_go m c.self.invariant.legal c.args.client c.args.step (subst P (sym c.self.view_is) c.requires.allowed) c.requires.word c.self.inside.marks c.turn_mark.new.marks _ _ _ c.self.invariant c.in-Some.own own (c.turn_mark.ensures (mark_on m) c.self.invariant.marked))
