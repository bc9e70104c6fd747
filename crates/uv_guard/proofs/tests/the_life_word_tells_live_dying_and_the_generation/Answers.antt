use Rattle.std.proofs.Common.{ap, ◌∙◌}
use Rattle.uv_guard.specs.Seated.{doomed_stage}
use Rattle.uv_guard.proofs.tests.the_life_word_tells_live_dying_and_the_generation.Goals as goal

pub retire-requires-clause-doomed : goal.retire-requires-clause-doomed
retire-requires-clause-doomed g c = let p = c.begin.ensures.living.1 in (p.0, ap (λ d. d.stage) c.doom.ensures ∙ ap doomed_stage p.1)
