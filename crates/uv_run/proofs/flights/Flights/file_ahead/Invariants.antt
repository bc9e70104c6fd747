use Rattle.std.proofs.Common.{◌≡◌}
use Rattle.uv_machine.specs.Histories.{state_of}
use Rattle.uv_run.specs.Site.{file_below}
use Rattle.uv_run.proofs.flights.Flights.file_ahead.Given as goal

abbrev pub invariant-loop-file : goal.invariant-loop-file
invariant-loop-file l = l.first ≡ file_below l.file (state_of l.self.world.core.history) l.device
