use Rattle.std.proofs.Common.{rules, ap, ◌∙◌, ◌∷◌, ◌++◌, []}
use Rattle.std.specs.Prelude.{Some, None}
use Rattle.uv_guard.specs.Steps.{taking}
use Rattle.atomic_table.specs.Table.{rest}
use Rattle.uv_guard.proofs.Takes.{gives_back}
use Rattle.uv_guard.proofs.cell.Cell.leave.Goals as goal

pub fetch_add-requires : goal.fetch_add-requires
fetch_add-requires g c =
    let i = c.requires.inside in let e = c.exchange.ensures.3 in
    (search rules, search rules, gives_back g.T.Celled.goes_on c.log_laws.ensures c.taking_laws.ensures _ _ _ i.0 c.args.value (ap (λ m. m.0.entered) e ∙ i.1.3) (ap (λ m. m.1) e ∙ ap (λ c'. (0, Some c.args.value) ∷ rest c') i.1.4) i.2)

pub unrefer-requires-clause-seat : goal.unrefer-requires-clause-seat
unrefer-requires-clause-seat g c =
    let i = c.requires.inside in let e = c.exchange.ensures.3 in
    let w = c.fetch_add.ensures.2 i.0 c.args.value (ap (λ m. m.0.entered) e ∙ i.1.3) (ap (λ m. m.1) e ∙ ap (λ c'. (0, Some c.args.value) ∷ rest c') i.1.4) in
    (ap (λ m. m.0.role) w ∙ (ap (λ m. m.0.role) e ∙ i.1.0), ap (λ m. m.0.number) w ∙ (ap (λ m. m.0.number) e ∙ i.1.1), i.1.2, ap (λ m. m.0.entered) w)

pub returns-clause-view : goal.returns-clause-view
returns-clause-view g c = λ h is.
    let i = c.requires.inside in let e = c.exchange.ensures.3 in
    let w = c.fetch_add.ensures.2 h c.args.value (ap (λ m. m.0.entered) e ∙ is) (ap (λ m. m.1) e ∙ ap (λ c'. (0, Some c.args.value) ∷ rest c') i.1.4) in
    c.unrefer.ensures.view ∙ (ap (λ m. (record m.0 { refers = None }, m.1)) w ∙ ap (λ m. (record m.0 { refers = None; entered = None; took = m.0.took ++ taking h c.args.value ∷ [] }, [])) e)
