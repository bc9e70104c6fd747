use Rattle.std.proofs.Common.{sym, ◌∙◌}
use Rattle.uv_run.proofs.Overs.{not_callable}
use Rattle.uv_run.proofs.running.Run.end_open.Goals as goal

pub returns-else-is_callable-clause-ended : goal.returns-else-is_callable-clause-ended
returns-else-is_callable-clause-ended c = not_callable c.args.self.now.flights c.requires.sound c.requires.idle c.args.file (sym c.is_callable.ensures ∙ c.if-is_callable.false)
