use Rattle.std.proofs.Common.{◌≡◌, ap, arith, length, refl}
use Rattle.uv_run.specs.Site.{Site}
use Rattle.uv_run.specs.Sound.{site_of}
use Rattle.uv_run.proofs.DataPath.{holds_then, polled_more, polled_none, taken_few}
use Rattle.uv_run.proofs.RunSounds.{stays_sound, stays_then}
use Rattle.uv_run.proofs.flights.Flights.poll_up_to.Goals as goal

pub loop-init : goal.loop-init
loop-init c =
    let none : length c.new-taken.result ≡ 0 = ap length c.new-taken.ensures in
    (polled_none (site_of c.args.self.now).held c.args.cq c.new-taken.result c.new-taken.ensures, refl, omega (arith, none), stays_sound c.args.self.now c.requires.sound)

pub loop-preserved : goal.loop-preserved
loop-preserved c =
    let inv = c.loop.invariant in
    let e = c.poll-last.ensures in
    let n = c.loop.counter in (
      polled_more n (site_of c.args.self.now).held (site_of c.loop.self).held (site_of c.poll-last.new.self).held c.args.cq c.loop.taken c.put_taken.new.taken c.loop.last c.poll-last.result inv.0 (ap (λ (v : Site). v.held) e.site) e.answer c.in_ok-put_taken.ensures,
      holds_then (site_of c.args.self.now) (site_of c.loop.self) (site_of c.poll-last.new.self) _ inv.1 e.site,
      taken_few n c.loop.taken c.put_taken.new.taken c.poll-last.result inv.2 c.in_ok-put_taken.ensures,
      stays_then c.args.self.now c.loop.self c.poll-last.new.self inv.3 e.sound,
    )
