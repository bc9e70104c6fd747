use Rattle.std.proofs.Common.{arith, ◌∙◌}
use Rattle.uv_run.specs.Runs.{stand_of}
use Rattle.uv_run.proofs.DataPath.{completions_all, completions_more}
use Rattle.uv_run.proofs.running.Run.say_completions.Goals as goal

pub loop-completion-preserved : goal.loop-completion-preserved
loop-completion-preserved c =
    let inv = c.loop-completion.invariant in
    let e = c.in_ok-say.ensures in (
      completions_more (stand_of c.args.self.now) (stand_of c.loop-completion.self) (stand_of c.say.new.self) c.args.line c.loop-completion.completion-index c.args.taken.now _ c.loop-completion-test.true e.said inv.0,
      e.flights ∙ inv.1,
    )

pub returns-clause-said : goal.returns-clause-said
returns-clause-said c =
    completions_all (stand_of c.args.self.now) (stand_of c.loop-completion.self) c.args.line c.loop-completion.completion-index c.args.taken.now (omega (arith, c.loop-completion-test.false)) c.loop-completion.invariant.0
