use Rattle.std.proofs.Common.{ap, ◌∙◌}
use Rattle.uv_guard.specs.Seated.{doomed_stage}
use Rattle.uv_guard.proofs.Tested.{buried_rests}
use Rattle.uv_guard.proofs.tests.finish.Goals as goal

pub retire-requires-clause-doomed : goal.retire-requires-clause-doomed
retire-requires-clause-doomed g c = let p = c.requires.1 in (p.0, ap (λ d. d.stage) c.doom.ensures ∙ ap doomed_stage p.1)

pub returns : goal.returns
returns g c =
    let p = c.requires.1 in let e = c.doom.ensures in
    let r = buried_rests c.doom.new.deed c.retire.new.deed p.0 c.retire.result (ap (λ d. d.stage) e ∙ ap doomed_stage p.1) c.retire.ensures.deed in
    (r.0 ∙ ap (λ d. d.cell) e, r.1)
