use Rattle.std.proofs.Common.{rules, ap, sym, ◌∙◌, ◌∷◌}
use Rattle.std.specs.Prelude.{Some}
use Rattle.atomic_table.specs.Table.{rest}
use Rattle.uv_guard.proofs.Deeds.{clears}
use Rattle.uv_guard.proofs.cell.Cell.retire.Goals as goal

pub load-life-requires : goal.load-life-requires
load-life-requires g c =
    let i = c.requires.doomed in let e = c.loop.invariant.1 in
    (search rules, search rules, clears g.T.Celled.goes_on g.T.Celled.same g.T.Celled.further _ _ _ i.0 (ap (λ m. m.0.role) e ∙ i.1.0) (ap (λ m. m.0.stage) e ∙ i.1.1))

pub exchange-requires : goal.exchange-requires
exchange-requires g c =
    let i = c.requires.doomed in let e = c.loop.invariant.1 in
    let h = (c.load-life.ensures.2 i.0 (ap (λ m. m.0.stage) e ∙ i.1.1)).0 c.if-life-eq0.true in let q = ap (λ m. m.1) h.1 in
    (search rules, (Some h.0, q ∙ ap (λ c. (0, Some h.0) ∷ rest c) (sym q)))
