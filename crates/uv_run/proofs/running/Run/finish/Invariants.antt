use Rattle.std.specs.List.{range_with_len}
use Rattle.uv_run.specs.declared.reply.Telling.TheVariants.{ToEnd}
use Rattle.uv_run.specs.Ends.{AreIdle}
use Rattle.uv_run.specs.Follows.{RunsOutAll}
use Rattle.uv_run.specs.Runs.{StaysSound, stand_of}
use Rattle.uv_run.specs.Sound.{site_of}
use Rattle.uv_run.proofs.running.Run.finish.Given as goal

abbrev pub invariant-loop-before : goal.invariant-loop-before
invariant-loop-before l = RunsOutAll ToEnd (stand_of l.initial.self) (range_with_len 1 l.before) (stand_of l.self) × AreIdle (site_of l.self.flights) l.before × StaysSound l.initial.self.flights l.self.flights
