use Rattle.std.proofs.Common.{◌≡◌, ℕ, suc, ◌+◌, ap, arith, refl, ◌∙◌}
use Rattle.uv_run.specs.Runs.{stand_of}
use Rattle.uv_run.specs.Sound.{site_of}
use Rattle.uv_run.specs.Turns.{other_goes, others_of}
use Rattle.uv_run.proofs.RunSounds.{stays_sound, stays_then}
use Rattle.uv_run.proofs.Turning.{lowers_more, lowers_none}
use Rattle.uv_run.proofs.running.Run.others_go.Goals as goal

pub loop-before-init : goal.loop-before-init
unfolding others_of
loop-before-init c = (refl, lowers_none (site_of c.args.self.now.flights) c.args.actor c.args.file, stays_sound c.args.self.now.flights c.requires.sound)

pub loop-before-preserved : goal.loop-before-preserved
unfolding others_of
loop-before-preserved c =
    let inv = c.loop-before.invariant in
    let e = c.in_ok-other_goes.ensures in
    let n : ℕ = c.loop-before.before in
    let more : suc n ≡ n + 1 = omega arith in (
      e.stand ∙ ap (λ s. other_goes s c.args.actor c.args.file (n + 1)) inv.0 ∙ ap (λ (k : ℕ). others_of k (stand_of c.args.self.now) c.args.actor c.args.file) more,
      lowers_more (site_of c.args.self.now.flights) (site_of c.loop-before.self.flights) (site_of c.other_goes.new.self.flights) c.args.actor c.args.file n inv.1 e.lowers,
      stays_then c.args.self.now.flights c.loop-before.self.flights c.other_goes.new.self.flights inv.2 e.sound,
    )
