use Rattle.std.proofs.Common.{◌≡◌, ◌∙◌, Some, ap, sym, subst, ⊎_elim}
use Rattle.uv_machine.specs.declared.entry.Entry.{Entry}
use Rattle.uv_machine.specs.declared.state.State.{State}
use Rattle.uv_machine.specs.Histories.{Allowed, after}
use Rattle.uv_machine.specs.States.{call_of}
use Rattle.uv_store.specs.Going.{IsStill}
use Rattle.uv_store.proofs.Passing.{binds, still_acts}
use Rattle.uv_store.proofs.store.Store.act.Goals as goal

pub pass-requires : goal.pass-requires
pass-requires c =
    let m = c.args.self.now in
    let P : Entry → Type 0 = λ e. Allowed m e in
    let Q : Entry → Type 0 = λ e. IsStill m (after m e) in
    let S : State → Type 0 = λ v. call_of v c.args.client ≡ Some c.in-Some.call in
    record {
      allowed = subst P (sym c.entry_by.ensures) c.requires.allowed;
      still = subst Q (sym c.entry_by.ensures) (still_acts m c.args.client c.args.step c.in-Some.call c.in-Acts.act c.requires (subst S c.self.view_is (sym c.call_of.ensures ∙ c.in-Some.is)) (sym c.role.ensures ∙ c.in-Acts.is) (⊎_elim (λ k. ap binds k.2) (λ r. ⊎_elim (λ k. ap binds k) (λ k. ap binds k) r) c.in-Modify.is));
    }
