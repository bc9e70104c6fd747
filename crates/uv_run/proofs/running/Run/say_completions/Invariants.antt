use Rattle.std.proofs.Common.{◌≡◌, drop, map}
use Rattle.uv_report.specs.declared.saying.Saying.TheVariants as saying
use Rattle.uv_run.specs.DataPath.{with_texts}
use Rattle.uv_run.specs.Runs.{stand_of}
use Rattle.uv_run.proofs.running.Run.say_completions.Given as goal

abbrev pub invariant-loop-completion : goal.invariant-loop-completion
invariant-loop-completion l =
    (with_texts (stand_of l.self) l.line (map saying.Completed (drop l.completion-index l.taken)) ≡ with_texts (stand_of l.initial.self) l.line (map saying.Completed l.taken)) × (l.self.flights ≡ l.initial.self.flights)
