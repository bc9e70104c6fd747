use Rattle.std.proofs.Common.{◌∙◌, ◌++◌, [], ◌∷◌, ap, sym, subst, append_assoc}
use Rattle.std.specs.Prelude.{option_to_list}
use Rattle.uv_num.specs.Each.{Each}
use Rattle.uv_guard.specs.Closed.{IsAtRest}
use Rattle.uv_guard.specs.Cells.{tables}
use Rattle.uv_guard.specs.Seated.{cells_of}
use Rattle.uv_guard.proofs.Many.{map_more, each_last}
use Rattle.uv_guard.proofs.Leaving.{same_last}
use Rattle.uv_guard.proofs.ends.end_all.Goals as goal

pub loop-cell-preserved : goal.loop-cell-preserved
loop-cell-preserved g c =
    let i = c.loop-cell.invariant in
    let cs = c.pop.ensures.items ∙ ap (λ x. c.pop.new.self.items ++ option_to_list x) c.in-Some.is in
    let ds = c.pop-in-Some.ensures.items ∙ ap (λ x. c.pop-in-Some.new.self.items ++ option_to_list x) c.in-Some-pop.is in
    let both = same_last (cells_of c.pop-in-Some.new.self.items) (tables c.pop.new.self.items) c.in-Some-pop.deed.cell c.in-Some.cell.table.shared.table_id
    (sym (map_more (λ d. d.cell) c.pop-in-Some.new.self.items c.in-Some-pop.deed) ∙ (ap cells_of (sym ds) ∙ (i.0 ∙ (ap tables cs ∙ map_more (λ z. z.table.shared.table_id) c.pop.new.self.items c.in-Some.cell)))) in
    let rest = each_last (λ d. IsAtRest d.stage) c.pop-in-Some.new.self.items c.in-Some-pop.deed (subst (Each (λ d. IsAtRest d.stage)) ds i.1) in
    (both.0, rest.0, (c.in-Some-pop.deed ∷ i.2.0, i.2.1 ∙ (ap (λ l. l ++ i.2.0) ds ∙ append_assoc c.pop-in-Some.new.self.items (c.in-Some-pop.deed ∷ []) i.2.0), (c.close.ensures, i.2.2)))
