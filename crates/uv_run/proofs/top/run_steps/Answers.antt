use Rattle.uv_run.proofs.Outcomes.{run_or_no_memory}
use Rattle.uv_run.proofs.top.run_steps.Goals as goal

pub returns-clause-complete : goal.returns-clause-complete
returns-clause-complete g c = run_or_no_memory _ _ _ _ _ _ _ _ _ c.read_and_run.ensures.statuses c.read_and_run.ensures.fault c.read_and_run.ensures.read_fault (λ four. (c.read_and_run.ensures.report_cut four).fault) c.read_and_run.ensures.long
