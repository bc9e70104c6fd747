use Rattle.std.proofs.Common.{ℕ, List, ◌≡◌, ◌∙◌, subst}
use Rattle.uv_run.specs.Outcome.{WritesUnlessFault}
use Rattle.uv_run.specs.Texts.{fault_line}
use Rattle.uv_run.proofs.top.tell_fault.Goals as goal

pub returns-clause-text : goal.returns-clause-text
returns-clause-text g c one =
    let Tells : List ℕ → Type 0 = λ v. WritesUnlessFault (g.K.Sink.written c.args.sink.now) (g.K.Sink.written c.tell.new.sink) (g.K.Sink.faults c.args.sink.now) (g.K.Sink.faults c.tell.new.sink) v in
    let same : c.as_slice.result.now ≡ fault_line c.args.line = c.as_slice.ensures ∙ c.in-Ok.ensures in
    subst Tells same c.tell.ensures.text
