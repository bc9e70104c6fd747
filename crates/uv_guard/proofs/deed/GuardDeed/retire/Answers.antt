use Rattle.std.proofs.Common.{ap, ◌∙◌}
use Rattle.uv_guard.proofs.Placing.{spent_deed, next_deed}
use Rattle.uv_guard.proofs.deed.GuardDeed.retire.Goals as goal

pub invariant_of-self : goal.invariant_of-self
invariant_of-self g c =
    let i = c.requires.doomed in let st = ap (λ d. d.stage) c.self.view_is ∙ i.1 in
    spent_deed _ _ _ _ _ i.0 c.retire-value.result c.self.invariant c.if-self-eq-MOST_GENERATION.true (c.retire-value.ensures.given i.0 st).1

pub invariant_of-self-else-self-eq-MOST_GENERATION : goal.invariant_of-self-else-self-eq-MOST_GENERATION
invariant_of-self-else-self-eq-MOST_GENERATION g c =
    let i = c.requires.doomed in let st = ap (λ d. d.stage) c.self.view_is ∙ i.1 in
    next_deed _ _ _ _ _ i.0 c.retire-value.result c.self.invariant st c.if-self-eq-MOST_GENERATION.false (c.retire-value.ensures.given i.0 st).1
