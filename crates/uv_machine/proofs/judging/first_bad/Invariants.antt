use Rattle.uv_machine.proofs.Judged.{IsJudged}
use Rattle.uv_machine.proofs.judging.first_bad.Given as goal

abbrev pub invariant-loop-place : goal.invariant-loop-place
invariant-loop-place l = IsJudged l.history l.place l.state
