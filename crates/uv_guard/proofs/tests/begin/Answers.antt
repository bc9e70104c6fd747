use Rattle.std.proofs.Common.{ap, sym, ◌∙◌}
use Rattle.std.specs.Prelude.{slice_get, Some}
use Rattle.uv_guard.proofs.tests.begin.Goals as goal

pub returns-clause-living : goal.returns-clause-living
returns-clause-living c =
    let e = c.plant.ensures in let r = c.requires in
    (ap (λ d. slice_get c.args.guard.now d.index) e ∙ (r.0 ∙ ap (λ d. Some d.cell) (sym e)), (record { name = 1; value = c.args.value }, ap (λ d. d.stage) e))
