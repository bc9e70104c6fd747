use Rattle.std.proofs.Common.{◌≡◌, ℕ, arith, subst}
use Rattle.std.specs.List.{range_with_len}
use Rattle.uv_num.specs.declared.limits.TheConstants.{DRIVER, ENDER}
use Rattle.uv_run.specs.declared.reply.Telling.TheVariants.{ToEnd}
use Rattle.uv_run.specs.Follows.{RunsOutAll, all_actors}
use Rattle.uv_run.specs.Runs.{stand_of}
use Rattle.uv_run.specs.Sound.{site_of}
use Rattle.uv_run.specs.Turns.{RunsOut}
use Rattle.uv_run.proofs.ChainLaws.{Chain-upto}
use Rattle.uv_run.proofs.RunSounds.{idle_at, idle_more, stays_then}
use Rattle.uv_run.proofs.running.Run.finish.Goals as goal

pub loop-before-preserved : goal.loop-before-preserved
loop-before-preserved c =
    let inv = c.loop-before.invariant in
    let e = c.in_ok-run_out.ensures in (
      Chain-upto (RunsOut ToEnd) c.loop-before.before (stand_of c.args.self.now) (stand_of c.loop-before.self) (stand_of c.run_out.new.self) inv.0 e.runs,
      idle_more (site_of c.loop-before.self.flights) (site_of c.run_out.new.self.flights) c.loop-before.before inv.1 e.sound.idle e.runs.ended,
      stays_then c.args.self.now.flights c.loop-before.self.flights c.run_out.new.self.flights inv.2 e.sound,
    )

pub returns-clause-finishes : goal.returns-clause-finishes
unfolding all_actors
returns-clause-finishes c =
    let P : ℕ → Type 0 = λ n. RunsOutAll ToEnd (stand_of c.args.self.now) (range_with_len 1 n) (stand_of c.loop-before.self) in
    subst P (let e : c.loop-before.before ≡ DRIVER = omega arith in e) c.loop-before.invariant.0

pub returns-clause-idle : goal.returns-clause-idle
returns-clause-idle c =
    let inv = c.loop-before.invariant in
    idle_more (site_of c.loop-before.self.flights) (site_of c.loop-before.self.flights) DRIVER (idle_at (site_of c.loop-before.self.flights) c.loop-before.before DRIVER (omega arith) inv.1) (λ b is. is) (inv.2.idle ENDER c.requires.ender)
