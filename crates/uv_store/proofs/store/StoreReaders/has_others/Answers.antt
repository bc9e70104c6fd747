use Rattle.std.proofs.Common.{◌≡◌, ◌∙◌, ap, subst}
use Rattle.uv_machine.specs.declared.state.State.{State}
use Rattle.uv_machine.specs.States.{has_others}
use Rattle.uv_store.specs.Marks.{stood_mark, beside_in}
use Rattle.uv_store.proofs.Reading.{beside_reads}
use Rattle.uv_store.proofs.store.StoreReaders.has_others.Goals as goal

pub returns : goal.returns
returns c =
    let m = c.self.inside.state in
    let P : State → Type 0 = λ v. c.has_beside.result ≡ beside_in (stood_mark v c.args.id) c.call_of.result c.args.id → c.has_beside.result ≡ has_others v c.args.actor c.args.id in
    subst P c.self.view_is (λ e. e ∙ (ap (λ s. beside_in (stood_mark m c.args.id) s c.args.id) c.call_of.ensures ∙ beside_reads m c.self.invariant.legal c.args.actor c.args.id))
    (c.has_beside.ensures ∙ ap (λ k. beside_in k c.call_of.result c.args.id) c.mark_of.ensures.mark)
