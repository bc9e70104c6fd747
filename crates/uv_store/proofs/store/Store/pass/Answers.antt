use Rattle.std.proofs.Common.{sym, subst}
use Rattle.uv_machine.specs.declared.state.State.{State}
use Rattle.uv_machine.specs.Histories.{Allowed, after}
use Rattle.uv_store.specs.Going.{IsStill}
use Rattle.uv_store.specs.Stored.{IsStored}
use Rattle.uv_store.proofs.Legal.{goes_on}
use Rattle.uv_store.proofs.Still.{stored_still}
use Rattle.uv_store.proofs.store.Store.pass.Goals as goal

pub invariant_of-self : goal.invariant_of-self
invariant_of-self c =
    let m = c.self.inside.state in
    let e = c.args.entry in
    let P : State → Type 0 = λ v. Allowed v e in
    let Q : State → Type 0 = λ v. IsStill v (after v e) in
    let R : State → Type 0 = λ v. IsStored v c.self.inside.marks c.self.inside.tables c.self.inside.doomed c.self.inside.standing in
    subst R (sym c.apply.ensures)
    (stored_still m (after m e) _ _ _ _ c.self.invariant (subst Q (sym c.self.view_is) c.requires.still) (goes_on m e c.self.invariant.legal (subst P (sym c.self.view_is) c.requires.allowed)))
