use Rattle.std.proofs.Common.{◌∙◌, ap, subst, map, Some}
use Rattle.uv_pool.specs.Homes.{Homes, AreOfCells}
use Rattle.uv_pool.proofs.Homing.{AreOfCells-IsPool}
use Rattle.uv_pool.proofs.pool.Pool.deeds.Goals as goal

pub returns-clause-cells : goal.returns-clause-cells
returns-clause-cells g c =
    let P : Homes g.row.D.Denot → Type 0 = λ p. AreOfCells g.D.Deed.facts p.kind c.from_vec.result in
    subst P c.self.view_is
    (AreOfCells-IsPool g.D.Deed.facts (record { kind = c.self.inside.kind; deeds = c.self.inside.deeds; next = c.self.inside.next }) c.from_vec.result (ap (λ ds. map Some ds) c.from_vec.ensures ∙ (c.in_ok-all_of.ensures ∙ c.into_vec.ensures)) c.self.invariant)
