use Rattle.uv_run.specs.Progress.{HasTurned, ahead}
use Rattle.uv_run.specs.Runs.{StaysSound, stand_of}
use Rattle.uv_run.proofs.running.Run.run_out.Given as goal

abbrev pub invariant-loop-telling : goal.invariant-loop-telling
invariant-loop-telling l = HasTurned l.telling (stand_of l.initial.self) l.actor (stand_of l.self) × StaysSound l.initial.self.flights l.self.flights

abbrev pub decreases-loop-telling : goal.decreases-loop-telling
decreases-loop-telling l = ahead (stand_of l.self).site
