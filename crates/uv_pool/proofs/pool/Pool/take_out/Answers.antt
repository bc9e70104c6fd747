use Rattle.std.proofs.Common.{◌∙◌, sym, ap, subst, None, arith}
use Rattle.std.proofs.lemmas.Option.{get_or_from_slice_get}
use Rattle.std.specs.Prelude.{IfSome}
use Rattle.uv_pool.specs.Homes.{Homes, IsOfCell, deed_at}
use Rattle.uv_pool.proofs.Homing.{IsPool-taken, IsOfCell-at}
use Rattle.uv_pool.proofs.pool.Pool.take_out.Goals as goal

pub invariant_of-self : goal.invariant_of-self
invariant_of-self g c =
    IsPool-taken g.D.Deed.facts (record { kind = c.self.inside.kind; deeds = c.self.inside.deeds; next = c.self.inside.next }) c.args.place _ c.take-deed.new.self c.take-deed.ensures.after c.requires
    (omega arith) c.self.invariant

pub returns-clause-deed : goal.returns-clause-deed
returns-clause-deed g c =
    c.take-deed.ensures.value
    ∙ (sym (get_or_from_slice_get c.self.inside.deeds c.args.place c.item_mut.result.now None c.item_mut.ensures.value) ∙ ap (λ p. deed_at p c.args.place) c.self.view_is)

pub returns-clause-own : goal.returns-clause-own
returns-clause-own g c =
    let P : Homes g.row.D.Denot → Type 0 = λ p. IfSome c.take-deed.result (λ d. IsOfCell g.D.Deed.facts p.kind c.args.place d) in
    subst P c.self.view_is
    (IsOfCell-at g.D.Deed.facts (record { kind = c.self.inside.kind; deeds = c.self.inside.deeds; next = c.self.inside.next }) c.args.place c.take-deed.result
    (c.take-deed.ensures.value
    ∙ sym (get_or_from_slice_get c.self.inside.deeds c.args.place c.item_mut.result.now None c.item_mut.ensures.value)) c.self.invariant)
