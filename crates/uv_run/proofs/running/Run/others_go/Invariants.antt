use Rattle.std.proofs.Common.{◌≡◌}
use Rattle.uv_run.specs.Progress.{Lowers}
use Rattle.uv_run.specs.Turns.{others_of}
use Rattle.uv_run.specs.Runs.{StaysSound, stand_of}
use Rattle.uv_run.specs.Sound.{site_of}
use Rattle.uv_run.proofs.running.Run.others_go.Given as goal

abbrev pub invariant-loop-before : goal.invariant-loop-before
invariant-loop-before l = (stand_of l.self ≡ others_of l.before (stand_of l.initial.self) l.actor l.file) × Lowers (site_of l.initial.self.flights) (site_of l.self.flights) l.actor l.file l.before × StaysSound l.initial.self.flights l.self.flights
