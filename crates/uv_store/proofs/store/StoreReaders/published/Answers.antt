use Rattle.std.proofs.Common.{◌≡◌, ◌∙◌, None, sym, subst}
use Rattle.uv_machine.specs.declared.state.State.{State}
use Rattle.uv_machine.specs.States.{published, object_with}
use Rattle.uv_store.proofs.Reading.{published_not, published_is}
use Rattle.uv_store.proofs.store.StoreReaders.published.Goals as goal

pub returns-in-None : goal.returns-in-None
returns-in-None c =
    let m = c.self.inside.state in
    let P : State → Type 0 = λ v. None ≡ published v c.args.file c.args.number in
    subst P c.self.view_is (sym (published_not c.self.inside.tables m c.args.file c.args.number c.self.invariant.tabled (sym c.in-None.ensures)))

pub returns-in-Some : goal.returns-in-Some
returns-in-Some c =
    let m = c.self.inside.state in
    let P : State → Type 0 = λ v. object_with v c.in-Some.id ≡ published v c.args.file c.args.number in
    c.object_with.ensures ∙ subst P c.self.view_is (published_is c.self.inside.tables m c.self.invariant.legal c.args.file c.args.number c.in-Some.id c.self.invariant.tabled (sym c.in-Some.ensures))
