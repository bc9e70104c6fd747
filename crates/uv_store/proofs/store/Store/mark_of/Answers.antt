use Rattle.std.proofs.Common.{◌≡◌, ◌∙◌, subst}
use Rattle.uv_machine.specs.declared.state.State.{State}
use Rattle.uv_store.specs.Stored.{IsLegalState}
use Rattle.uv_store.specs.Marks.{mark_on, stood_mark}
use Rattle.uv_store.proofs.Legal.{rises}
use Rattle.uv_store.proofs.Reading.{mark_found}
use Rattle.uv_store.proofs.store.Store.mark_of.Goals as goal

pub mark_of-requires : goal.mark_of-requires
mark_of-requires c = rises _ c.self.invariant.legal

pub returns-clause-mark : goal.returns-clause-mark
returns-clause-mark c =
    let m = c.self.inside.state in
    let P : State → Type 0 = λ v. c.mark_of.result ≡ stood_mark v c.args.id in
    subst P c.self.view_is (c.mark_of.ensures (mark_on m) c.self.invariant.marked ∙ mark_found m c.args.id)

pub returns-clause-legal : goal.returns-clause-legal
returns-clause-legal c =
    let P : State → Type 0 = λ v. IsLegalState v in
    subst P c.self.view_is c.self.invariant.legal
