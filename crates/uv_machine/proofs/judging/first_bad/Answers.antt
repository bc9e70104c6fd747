use Rattle.uv_machine.proofs.Judged.{IsJudged-start, IsJudged-next, IsFirstBad-judged, IsLegal-judged}
use Rattle.uv_machine.proofs.judging.first_bad.Goals as goal

pub loop-place-init : goal.loop-place-init
loop-place-init c = IsJudged-start _ _ c.in_ok-state.ensures

pub returns-then-not-allows : goal.returns-then-not-allows
returns-then-not-allows c =
    IsFirstBad-judged _ _ _ _ c.loop-place-test.true c.loop-place.invariant (λ allowed. (let yes = c.allows.ensures.1 allowed in let no = c.if-not-allows.true in cc))

pub loop-place-preserved : goal.loop-place-preserved
loop-place-preserved c =
    IsJudged-next _ _ _ _ c.loop-place-test.true c.loop-place.invariant _ (c.allows.ensures.0 c.if-not-allows.false) c.apply.ensures

pub returns : goal.returns
returns c = IsLegal-judged _ _ _ c.loop-place-test.false c.loop-place.invariant
