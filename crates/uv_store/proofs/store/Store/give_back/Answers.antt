use Rattle.std.proofs.Common.{◌≡◌, ◌∙◌, Some, ap, sym, subst}
use Rattle.uv_machine.specs.declared.entry.Word.TheVariants.{Abort}
use Rattle.uv_machine.specs.declared.state.State.{State}
use Rattle.uv_machine.specs.Histories.{after}
use Rattle.uv_machine.specs.States.{call_of}
use Rattle.uv_store.specs.Going.{Goes}
use Rattle.uv_store.specs.Stored.{IsStored}
use Rattle.uv_store.proofs.Aborting.{has_number, reserved_before, stored_gives}
use Rattle.uv_store.proofs.store.Store.give_back.Goals as goal

pub invariant_of-self : goal.invariant_of-self
invariant_of-self c =
    let m = c.self.inside.state in
    let P : State → Type 0 = λ v. Goes v c.args.client c.args.step Abort in
    let Q : State → Type 0 = λ v. call_of v c.args.client ≡ Some c.args.call in
    absurd (has_number m c.self.invariant.legal c.args.client c.args.step (subst P (sym c.self.view_is) c.requires.goes) c.args.call (subst Q (sym c.self.view_is) c.requires.is) c.in-None.is)

pub abort-requires : goal.abort-requires
abort-requires c =
    let m = c.self.inside.state in
    let Q : State → Type 0 = λ v. call_of v c.args.client ≡ Some c.args.call in
    reserved_before m c.self.invariant.legal c.args.client c.args.call c.in-Some.number (subst Q (sym c.self.view_is) c.requires.is) c.in-Some.is c.self.inside.tables c.self.invariant.tabled

pub invariant_of-self-in-Some : goal.invariant_of-self-in-Some
invariant_of-self-in-Some c =
    let m = c.self.inside.state in
    let P : State → Type 0 = λ v. Goes v c.args.client c.args.step Abort in
    let Q : State → Type 0 = λ v. call_of v c.args.client ≡ Some c.args.call in
    let R : State → Type 0 = λ v. IsStored v c.self.inside.marks c.abort.new.tables c.self.inside.doomed c.self.inside.standing in
    subst R (sym (c.apply-in-Some.ensures ∙ ap (after m) c.entry_by-in-Some.ensures))
    (stored_gives m c.self.invariant.legal c.args.client c.args.step (subst P (sym c.self.view_is) c.requires.goes) c.args.call c.in-Some.number (subst Q (sym c.self.view_is) c.requires.is) c.in-Some.is c.self.inside.marks c.self.inside.tables c.abort.new.tables _ _ c.self.invariant c.abort.ensures)
