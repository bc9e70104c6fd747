use Rattle.std.proofs.Common.{◌≡◌, drop}
use Rattle.uv_engine.specs.Ringing.{all_rung}
use Rattle.uv_engine.proofs.ringing.ring_all.Given as goal

abbrev pub invariant-loop-completion : goal.invariant-loop-completion
invariant-loop-completion l =
    all_rung l.lent (drop l.completion-index l.completions) l.solicited ≡ all_rung l.initial.lent l.completions l.solicited
