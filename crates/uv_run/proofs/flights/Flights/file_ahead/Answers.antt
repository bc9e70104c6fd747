use Rattle.std.proofs.Common.{◌≡◌, ℕ, ap, arith, ◌∙◌}
use Rattle.uv_num.specs.declared.limits.TheConstants.{FILES}
use Rattle.uv_machine.specs.Histories.{state_of}
use Rattle.uv_run.specs.Site.{file_below}
use Rattle.uv_run.proofs.flights.Flights.file_ahead.Goals as goal

pub returns : goal.returns
returns c = c.loop-file.invariant ∙ ap (λ (n : ℕ). file_below n (state_of c.args.self.now.world.core.history) c.args.device) (let e : c.loop-file.file ≡ FILES = omega arith in e)
