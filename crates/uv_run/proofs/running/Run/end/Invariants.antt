use Rattle.std.proofs.Common.{◌≡◌, ℕ, ◌<◌, true}
use Rattle.std.specs.List.{range_with_len}
use Rattle.uv_num.specs.declared.limits.TheConstants.{ENDER}
use Rattle.uv_machine.specs.Histories.{state_of}
use Rattle.uv_machine.specs.States.{phase_of}
use Rattle.uv_run.specs.Ends.{AreIdle}
use Rattle.uv_run.specs.Follows.{EndsAll}
use Rattle.uv_run.specs.Runs.{StaysSound, stand_of}
use Rattle.uv_run.specs.Sound.{is_ending, site_of}
use Rattle.uv_run.proofs.running.Run.end.Given as goal

abbrev pub invariant-loop-file : goal.invariant-loop-file
invariant-loop-file l =
    EndsAll (stand_of l.initial.self) (range_with_len 0 l.file) (stand_of l.self) × StaysSound l.initial.self.flights l.self.flights × AreIdle (site_of l.self.flights) ENDER
    × ((g : ℕ) → g < l.file → is_ending (phase_of (state_of l.self.flights.world.core.history) g) ≡ true)
