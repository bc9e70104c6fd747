use Rattle.std.proofs.Common.{rules, ap, sym, ◌∙◌, ◌∷◌}
use Rattle.std.specs.Prelude.{Some}
use Rattle.atomic_table.specs.Table.{rest}
use Rattle.uv_desk.proofs.Stepping.{draws, looks}
use Rattle.uv_desk.proofs.turning.take.Goals as goal

pub fetch_add-mine-requires : goal.fetch_add-mine-requires
fetch_add-mine-requires g c = (search rules, search rules, draws g.M.Machine.history g.M.Machine.own g.M.Machine.names _ _ _ _ c.requires.ready.0 c.requires.ready.1 c.requires.ready.2)

pub load-requires : goal.load-requires
load-requires g c =
    let i = c.loop.invariant in let e = i.1.2 in (
      search rules,
      search rules,
      looks g.M.Machine.history g.M.Machine.own g.M.Machine.names _ c.log_laws.ensures _ _ _ i.1.0 (ap (λ m. m.0.numbered) e ∙ c.requires.ready.0) (ap (λ m. m.0.ticket) e) (ap (λ m. m.0.held) e ∙ c.requires.ready.2),
    )

pub exchange-requires : goal.exchange-requires
exchange-requires g c =
    let i = c.loop.invariant in
    let hit = (c.load.ensures.2 i.1.0 (ap (λ m. m.0.ticket) i.1.2)).0 (c.if-load-mine.true ∙ i.1.1) in
    let e = ap (λ m. m.1) hit.2 in
    (search rules, (Some hit.0, e ∙ ap (λ c. (0, Some hit.0) ∷ rest c) (sym e)))
