use Rattle.std.proofs.Common.{◌≡◌, ◌∙◌, ap, subst}
use Rattle.std.specs.Prelude.{nat_lt}
use Rattle.uv_machine.specs.declared.state.State.{State}
use Rattle.uv_machine.specs.Objects.{is_standing_in}
use Rattle.uv_machine.specs.States.{has_standing}
use Rattle.uv_store.proofs.Beside.{any_count}
use Rattle.uv_store.proofs.store.StoreReaders.has_standing.Goals as goal

pub returns : goal.returns
returns c =
    let m = c.self.inside.state in
    let P : State → Type 0 = λ v. c.has_count.result ≡ has_standing v c.args.file in
    subst P c.self.view_is (c.has_count.ensures ∙ (ap (nat_lt 0) (c.self.invariant.stands c.args.file) ∙ any_count (is_standing_in c.args.file) m.objects))
