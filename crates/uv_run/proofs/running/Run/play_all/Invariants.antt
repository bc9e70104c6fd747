use Rattle.std.proofs.Common.{◌≡◌, false, take}
use Rattle.std.specs.Prelude.{All}
use Rattle.uv_num.specs.declared.limits.TheConstants.{ENDER}
use Rattle.uv_script.specs.Ranges.{IsInRange}
use Rattle.uv_run.specs.Marks.{PlaysMarks}
use Rattle.uv_run.specs.Progress.{HasRoomFor}
use Rattle.uv_run.specs.Runs.{stand_of}
use Rattle.uv_run.specs.Sound.{IsSound, site_of}
use Rattle.uv_run.specs.Site.{is_busy}
use Rattle.uv_run.proofs.running.Run.play_all.Given as goal

abbrev pub invariant-loop-place : goal.invariant-loop-place
invariant-loop-place l =
    PlaysMarks (stand_of l.initial.self) (take l.place l.script) (stand_of l.self) l.marks × All IsInRange (take l.place l.script) × HasRoomFor l.script l.place l.self.flights.world.core
    × (is_busy (site_of l.self.flights) ENDER ≡ false) × IsSound l.self.flights
