use Rattle.std.proofs.Common.{◌≡◌, ◌∙◌, refl, subst}
use Rattle.uv_machine.specs.declared.state.State.{State}
use Rattle.uv_machine.specs.States.{least_free}
use Rattle.uv_store.proofs.Reading.{least_reads}
use Rattle.uv_store.proofs.store.StoreReaders.least_free.Goals as goal

pub returns : goal.returns
returns c =
    let m = c.self.inside.state in
    let s = c.self.invariant in
    let P : State → Type 0 = λ v. c.least_free.result ≡ least_free v c.args.file in
    subst P c.self.view_is (c.least_free.ensures.number ∙ least_reads c.self.inside.tables m s.legal c.args.file _ refl s.files s.tabled c.least_free.ensures.size)
