use Rattle.std.proofs.Common.{◌≡◌, ◌∙◌, ap, subst}
use Rattle.std.specs.Prelude.{nat_lt}
use Rattle.uv_machine.specs.declared.state.State.{State}
use Rattle.uv_machine.specs.Objects.{is_doomed_in}
use Rattle.uv_machine.specs.States.{has_doomed}
use Rattle.uv_store.proofs.Beside.{any_count}
use Rattle.uv_store.proofs.store.StoreReaders.has_doomed.Goals as goal

pub returns : goal.returns
returns c =
    let m = c.self.inside.state in
    let P : State → Type 0 = λ v. c.has_count.result ≡ has_doomed v c.args.file in
    subst P c.self.view_is (c.has_count.ensures ∙ (ap (nat_lt 0) (c.self.invariant.dooms c.args.file) ∙ any_count (is_doomed_in c.args.file) m.objects))
