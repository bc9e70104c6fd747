use Rattle.std.proofs.Common.{arith}
use Rattle.uv_run.specs.Runs.{stand_of}
use Rattle.uv_run.proofs.Marking.{marks_more, no_marks}
use Rattle.uv_run.proofs.RunSounds.{no_ranges, ranges_more, room_more}
use Rattle.uv_run.proofs.running.Run.play_all.Goals as goal

pub loop-place-preserved : goal.loop-place-preserved
loop-place-preserved c =
    let inv = c.loop-place.invariant in
    let e = c.in_ok-play.ensures in (
      marks_more (stand_of c.args.self.now) c.args.script.now c.loop-place.place (stand_of c.loop-place.self) c.line.result.now (stand_of c.play.new.self) c.loop-place.marks c.push.new.self c.entries.result c.line.ensures.line inv.0 e.plays c.entries.ensures c.in_ok-push.ensures.ok,
      ranges_more c.args.script.now c.loop-place.place c.line.result.now c.line.ensures.line c.line.ensures.ranges inv.1,
      room_more c.args.script.now c.loop-place.place c.loop-place.self.flights.world.core c.play.new.self.flights.world.core inv.2 e.sound.spares,
      e.sound.ender inv.3,
      e.sound.sound,
    )

pub loop-place-init : goal.loop-place-init
loop-place-init c = (no_marks (stand_of c.args.self.now) c.new-marks.result c.new-marks.ensures, no_ranges, λ b client. (let room = c.requires.room b client in omega (arith, room, c.len-place-end.ensures.lines, c.len-place-end.ensures.limit)), c.requires.ender, c.requires.sound)
