use Rattle.std.proofs.Common.{rules, ap, ◌∙◌, ◌∷◌, ◌++◌, []}
use Rattle.std.specs.Prelude.{Some, None}
use Rattle.atomic_table.specs.Table.{rest}
use Rattle.uv_guard.specs.declared.life.Stage.TheVariants.{Planted}
use Rattle.uv_guard.proofs.Deeds.{fills, plants}
use Rattle.uv_guard.proofs.cell.Cell.plant.Goals as goal

pub load-requires : goal.load-requires
load-requires g c = let i = c.requires.home in (search rules, search rules, fills g.T.Celled.goes_on _ _ _ i.0 i.1)

pub fetch_or-requires : goal.fetch_or-requires
fetch_or-requires g c =
    let i = c.requires.home in let f = c.load.ensures.2 in let e = c.exchange.ensures.3 in (
      search rules,
      search rules,
      plants g.T.Celled.goes_on _ _ _ c.args.value (ap (λ m. m.0.role) e ∙ (ap (λ m. m.0.role) f ∙ i.0)) (ap (λ m. m.0.stage) e ∙ ap (λ m. m.0.stage) f)
          (ap (λ m. m.1) e ∙ ap (λ c'. (0, Some c.args.value) ∷ rest c') (ap (λ m. m.1) f ∙ ap (λ c'. (0, None) ∷ c') i.4)),
    )

pub returns-clause-planted : goal.returns-clause-planted
returns-clause-planted g c =
    let i = c.requires.home in let f = c.load.ensures.2 in let e = c.exchange.ensures.3 in
    let w = c.fetch_or.ensures.2 c.args.value (ap (λ m. m.1) e ∙ ap (λ c'. (0, Some c.args.value) ∷ rest c') (ap (λ m. m.1) f ∙ ap (λ c'. (0, None) ∷ c') i.4)) in
    w ∙ (ap (λ m. (record m.0 { stage = Planted c.args.value; plants = m.0.plants ++ record { generation = m.0.generation; value = c.args.value } ∷ [] }, [])) e ∙ ap (λ m. (record m.0 { stage = Planted c.args.value; plants = m.0.plants ++ record { generation = m.0.generation; value = c.args.value } ∷ [] }, [])) f)
