use Rattle.std.proofs.Common.{ap, ◌∙◌}
use Rattle.uv_num.specs.declared.limits.TheConstants.{ENDER}
use Rattle.uv_run.specs.Site.{Site, is_busy}
use Rattle.uv_run.proofs.Starts.{start_idle}
use Rattle.uv_run.proofs.running.Run.new.Goals as goal

pub returns-clause-ender : goal.returns-clause-ender
returns-clause-ender c = ap (λ (s : Site). is_busy s ENDER) c.in_ok-new.ensures.site ∙ start_idle ENDER
